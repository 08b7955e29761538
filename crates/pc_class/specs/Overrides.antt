-- Overrides: a method against those of its name that the ancestors of its class have.
-- Typing specification, "Type system concepts", assignability of callables; own rule of the profile.
use Rattle.std.specs.Prelude.{◌≡◌, ℕ, List, [], ◌∷◌, Bool, true, false, ◌&&◌, ◌||◌, not, IsTrue, Option, Some, None}
use Rattle.std.specs.Prelude.{All, filter, bytes_eq}
use Rattle.pc_tree.specs.declared.code.Code.{Code}
use Rattle.pc_tree.specs.declared.code.Code.TheVariants.{E11, A8}
use Rattle.pc_types.specs.Tree.{Tree}
use Rattle.pc_types.specs.Below.{Bases, Static}
use Rattle.pc_types.specs.Assignable.{Assignable}
use Rattle.pc_class.specs.Facts.{TypedParameter, Method}

-- both have the same number of parameters, the same names by position, and a default wherever the ancestor's has one
abbrev pub has_shape_of : List TypedParameter → List TypedParameter → Bool
has_shape_of [] [] = true
has_shape_of (p ∷ ps) (q ∷ qs) = bytes_eq p.name q.name && ((not p.has_default || q.has_default) && has_shape_of ps qs)
has_shape_of _ _ = false

-- a flow from a type into another
pub record TypeFlow : Type 0 where
  pub from : Tree
  pub into : Tree

-- the type of each parameter of the ancestor's method flows into that of the method
abbrev pub parameter_flows : List TypedParameter → List TypedParameter → List TypeFlow
parameter_flows (p ∷ ps) (q ∷ qs) = record { from = p.type; into = q.type } ∷ parameter_flows ps qs
parameter_flows _ _ = []

-- the flows of an override: its return type into the ancestor's, and each parameter of the ancestor's into its own
abbrev pub override_flows : Method → Method → List TypeFlow
override_flows old new = record {
  from = new.returns;
  into = old.returns;
} ∷ parameter_flows old.parameters new.parameters

-- an override is good against the ancestor's method
pub record IsGood (bases : Bases) (new old : Method) : Type 0 where
  pub shape : IsTrue (has_shape_of old.parameters new.parameters)
  pub flows : All (λ f. Assignable bases f.from f.into) (override_flows old new)

-- all flows of an override are static
pub record IsStatic (bases : Bases) (new old : Method) : Type 0 where
  pub shape : IsTrue (has_shape_of old.parameters new.parameters)
  pub flows : All (λ f. Static bases f.from f.into) (override_flows old new)

-- the code at a method's name, judged against every ancestor's method: E11, else A8, or none
pub data Judges (bases : Bases) (olds : List Method) (new : Method) : Option Code → Type 0 where
  static : All (IsStatic bases new) olds → Judges bases olds new None
  dynamic : All (IsGood bases new) olds → ¬ (All (IsStatic bases new) olds) → Judges bases olds new (Some A8)
  wrong : ¬ (All (IsGood bases new) olds) → Judges bases olds new (Some E11)

-- a method is judged against the methods that it overrides, with exactly one result
pub record IsJudgedOnce (bases : Bases) (olds : List Method) (new : Method) : Type 0 where
  pub code : Option Code
  pub judged : Judges bases olds new code
  pub only : (other : Option Code) → Judges bases olds new other → other ≡ code

-- the ancestors' methods of a name
abbrev pub overridden : List Method → List ℕ → List Method
overridden methods name = filter (λ f. bytes_eq name f.name) methods
