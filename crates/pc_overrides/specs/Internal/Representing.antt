-- Demands that imply others, so that whatever satisfies the one satisfies the other; and demands that are enough in
-- place of methods. Own rule of the profile.
use Rattle.std.specs.Prelude.{◌≡◌, ℕ, zero, suc, List, Bool, true, false, ◌&&◌, IsTrue, Option, Some, None, All}
use Rattle.std.specs.Prelude.{slice_get, string_bytes, Vec}
use Rattle.std.specs.Global.{Global}
use Rattle.std.specs.List.{list_all}
use Rattle.pc_types.specs.Tree.{Tree, Any}
use Rattle.pc_types.specs.Below.{Bases, base_of}
use Rattle.pc_types.specs.Assignable.{IsPlain}
use Rattle.pc_annotations.specs.Bases.{bases_of}
use Rattle.pc_overrides.specs.declared.known.Judged.{Judged}
use Rattle.pc_overrides.specs.declared.known.Judging.{Judging}
use Rattle.pc_overrides.specs.declared.overriding.Demand.{Demand}
use Rattle.pc_overrides.specs.declared.overriding.Relation.{Relation}
use Rattle.pc_class.specs.Facts.{TypedParameter, Method}
use Rattle.pc_class.specs.Overrides.{overridden}
use Rattle.pc_class.specs.OverrideFindings.{override_code}
use Rattle.pc_class.specs.Tables.{IsMethod, method_lent}
use Rattle.pc_class.specs.WellFormed.{MethodWellFormed}
use Rattle.pc_overrides.specs.Internal.OverrideTests.{overrides_by, meets, meets_demand, module_judged, methods_above}

-- a type without Any, the same type as the other, or any type if the other is Any: if it is a static subtype of the
-- other, whatever is good against it is good against the other
pub data TypeSubsumes (new old : Tree) : Type 0 where
  plain : IsPlain new → TypeSubsumes new old
  unknown : old ≡ Any → TypeSubsumes new old
  same : new ≡ old → TypeSubsumes new old

-- the type of a parameter subsumes that of the ancestor's parameter
abbrev pub ParameterSubsumes : (new old : Option TypedParameter) → Type 0
ParameterSubsumes (Some new) (Some old) = TypeSubsumes new.type old.type
ParameterSubsumes _ _ = ⊥

-- the type of a method at a part subsumes that of another method at this part
abbrev pub PartSubsumes : (new old : Method) → ℕ → Type 0
PartSubsumes new old zero = TypeSubsumes new.returns old.returns
PartSubsumes new old (suc n) = ParameterSubsumes (slice_get new.parameters n) (slice_get old.parameters n)

-- methods with the same parameters that return the same type
pub record AreAlike (x y : Method) : Type 0 where
  pub parameters : x.parameters ≡ y.parameters
  pub returns : x.returns ≡ y.returns

-- whatever satisfies the demand of the one method at a part satisfies that of the other
abbrev pub Implies : Bases → (new old : Method) → ℕ → Type 0
Implies bases new old part = (relation : Relation) (z : Method) → MethodWellFormed bases z
    → IsTrue (meets relation bases z new part) → IsTrue (meets relation bases z old part)

-- whether a method is static to all, if it is good against all
abbrev pub static_where : (good static : Bool) → Option Bool
static_where false _ = None
static_where true static = Some static

module _ {Ty : Type 0} (tree : Ty → Tree) where
  -- to satisfy these demands is to satisfy the earlier ones and one more
  abbrev pub IsOneMore : Bases → (demands before : List (Demand Ty)) → Demand Ty → Type 0
  IsOneMore bases demands before d = (relation : Relation) (z : Method) → MethodWellFormed bases z
      → list_all (meets_demand tree relation bases z) demands
      ≡ (list_all (meets_demand tree relation bases z) before && meets_demand tree relation bases z d)

  -- to satisfy these demands is to override a method and to satisfy the others
  abbrev pub AreWith : Bases → (demands : List (Demand Ty)) → Method → (others : List (Demand Ty)) → Type 0
  AreWith bases demands x others = (relation : Relation) (z : Method) → MethodWellFormed bases z
      → list_all (meets_demand tree relation bases z) demands
      ≡ (overrides_by relation bases z x && list_all (meets_demand tree relation bases z) others)

  -- to satisfy these demands and to override some methods is to override all of these methods
  abbrev pub IsEnough : Bases → List (Demand Ty) → (some all : List Method) → Type 0
  IsEnough bases demands some all = (relation : Relation) (z : Method) → MethodWellFormed bases z
      → (list_all (meets_demand tree relation bases z) demands && list_all (overrides_by relation bases z) some)
      ≡ list_all (overrides_by relation bases z) all

  module _ (s : Judging Ty) where
    -- the methods of these demands are in the table
    abbrev pub AreListed : List (Demand Ty) → Type 0
    AreListed demands = All (λ (d : Demand Ty). IsMethod s.classes.now d.method.now) demands

    -- demands of methods in the table, with all methods of the name that a class has, are enough in place of these
    -- methods
    pub record Represent (name : List ℕ) (olds : List Method) (demands : List (Demand Ty)) (rest : Option ℕ) : Type 0
      where
        pub listed : AreListed demands
        pub enough : IsEnough (bases_of (module_judged s)) demands (overridden (methods_above s rest) name) olds

    -- the facts kept of a method of a class: the method is in the table; its code; demands in place of all methods of
    -- its name that the class has
    pub record IsKnown (c : ℕ) (k : Judged Ty) : Type 0 where
      pub method : IsMethod s.classes.now k.method.now
      pub code : k.code ≡ override_code (bases_of (module_judged s)) (overridden (methods_above s
          (base_of (bases_of (module_judged s)) c)) (string_bytes k.method.now.name)) (method_lent tree k.method)
      pub known : Represent (string_bytes k.method.now.name)
          (overridden (methods_above s (Some c)) (string_bytes k.method.now.name)) k.demands.items k.rest

    -- the facts kept of the methods of each class
    abbrev pub AreKnown : List (Vec (Judged Ty) Global) → Type 0
    AreKnown judged = (c : ℕ) (own : Vec (Judged Ty) Global) → slice_get judged c ≡ Some own
        → All (IsKnown c) own.items
