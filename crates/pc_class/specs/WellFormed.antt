-- Well-formed classes: the types of their fields and methods are in normal form, without absorbed members and of at
-- most 256 nodes. Own rule of the profile.
use Rattle.std.specs.Prelude.{List, [], ◌∷◌}
use Rattle.pc_tree.specs.Tree.{Module}
use Rattle.pc_types.specs.Below.{Bases}
use Rattle.pc_types.specs.WellFormed.{IsWellFormed}
use Rattle.pc_class.specs.Bases.{bases_of}
use Rattle.pc_class.specs.Facts as facts
use Rattle.pc_class.specs.Facts.{TypedParameter, Method, classes_of}

-- the types of parameters are well-formed
abbrev pub ParametersWellFormed : Bases → List TypedParameter → Type 0
ParametersWellFormed bases [] = Unit {0}
ParametersWellFormed bases (p ∷ ps) = IsWellFormed bases p.type × ParametersWellFormed bases ps

-- the types of a method's parameters and its return type are well-formed
pub record MethodWellFormed (bases : Bases) (m : Method) : Type 0 where
  pub parameters : ParametersWellFormed bases m.parameters
  pub returns : IsWellFormed bases m.returns

-- the types of the parameters and the return type of each of these methods are well-formed
abbrev pub MethodsWellFormed : Bases → List Method → Type 0
MethodsWellFormed bases [] = Unit {0}
MethodsWellFormed bases (m ∷ ms) = MethodWellFormed bases m × MethodsWellFormed bases ms

-- the types of a class's fields and methods are well-formed
pub record ClassWellFormed (bases : Bases) (c : facts.ClassFacts) : Type 0 where
  pub fields : ParametersWellFormed bases c.fields
  pub methods : MethodsWellFormed bases c.methods

-- the types of the fields and methods of each of these classes are well-formed
abbrev pub ClassesWellFormed : Bases → List facts.ClassFacts → Type 0
ClassesWellFormed bases [] = Unit {0}
ClassesWellFormed bases (c ∷ cs) = ClassWellFormed bases c × ClassesWellFormed bases cs

-- the classes of a module are well-formed
abbrev pub ClassesAreWellFormed : Type 0
ClassesAreWellFormed = (m : Module) → ClassesWellFormed (bases_of m) (classes_of m)
