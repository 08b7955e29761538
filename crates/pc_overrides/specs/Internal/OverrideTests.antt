-- The context in which overrides are judged, and the tests of a method against one that it overrides, in a relation: of
-- all demands of the other method, and of its demand at one part. Own rule of the profile.
use Rattle.std.specs.Prelude.{◌≡◌, ◌==◌, ℕ, zero, suc, List, length, Bool, true, ◌&&◌, ◌||◌, not, Option, Some}
use Rattle.std.specs.Prelude.{slice_get, bytes_eq}
use Rattle.std.specs.List.{list_all}
use Rattle.pc_tree.specs.Tree.{Module, module_of}
use Rattle.pc_types.specs.Tree.{Tree}
use Rattle.pc_types.specs.Below.{Bases}
use Rattle.pc_annotations.specs.Bases.{bases_of}
use Rattle.pc_overrides.specs.declared.known.Judging.{Judging}
use Rattle.pc_overrides.specs.declared.overriding.Demand.{Demand}
use Rattle.pc_overrides.specs.declared.overriding.Relation.{Relation}
use Rattle.pc_overrides.specs.declared.overriding.Relation.TheVariants.{Static, Assignable}
use Rattle.pc_class.specs.Facts.{TypedParameter, Method, base_facts, classes_of}
use Rattle.pc_class.specs.Overrides.{TypeFlow, has_shape_of, override_flows}
use Rattle.pc_class.specs.OverrideFindings.{flow_is_static, flow_is_good}
use Rattle.pc_class.specs.Tables.{classes_with, method_lent}
use Rattle.pc_class.specs.Parts.{bases_in}

-- whether a flow is in the relation
abbrev pub flow_fits : Relation → Bases → TypeFlow → Bool
flow_fits Static = flow_is_static
flow_fits Assignable = flow_is_good

-- whether a method is in the relation to the one that it overrides
abbrev pub overrides_by : Relation → Bases → Method → Method → Bool
overrides_by relation bases new old = has_shape_of old.parameters new.parameters
    && list_all (flow_fits relation bases) (override_flows old new)

-- whether a parameter has the name of the ancestor's and a default if that one has a default
abbrev pub parameter_suits : (old new : TypedParameter) → Bool
parameter_suits old new = bytes_eq old.name new.name && (not old.has_default || new.has_default)

-- whether a parameter suits the ancestor's, whose type flows into its own; true if one of the two is missing
abbrev pub parameter_meets : Relation → Bases → (new old : Option TypedParameter) → Bool
parameter_meets relation bases (Some new) (Some old) = parameter_suits old new
    && flow_fits relation bases (record { from = old.type; into = new.type })
parameter_meets relation bases _ _ = true

-- whether a method satisfies the demand of another at a part: part 0 is the return type, each further part a parameter
abbrev pub part_meets : Relation → Bases → (new old : Method) → ℕ → Bool
part_meets relation bases new old zero = flow_fits relation bases (record { from = new.returns; into = old.returns })
part_meets relation bases new old (suc n) =
    parameter_meets relation bases (slice_get new.parameters n) (slice_get old.parameters n)

-- whether a method has as many parameters as another and satisfies its demand at a part
abbrev pub meets : Relation → Bases → (new old : Method) → ℕ → Bool
meets relation bases new old part = (length old.parameters == length new.parameters)
    && part_meets relation bases new old part

module _ {Ty : Type 0} where
  -- whether a method satisfies a demand
  abbrev pub meets_demand : (Ty → Tree) → Relation → Bases → Method → Demand Ty → Bool
  meets_demand tree relation bases z d = meets relation bases z (method_lent tree d.method) d.part

  -- the module whose overrides are judged
  abbrev pub module_judged : Judging Ty → Module
  module_judged s = module_of s.tree.now

  -- the table of classes is that of the module, and so are its bases
  pub record IsJudging (tree : Ty → Tree) (s : Judging Ty) : Type 0 where
    pub parents : bases_in s.classes.now ≡ bases_of (module_judged s)
    pub classes : classes_with tree s.classes.now ≡ classes_of (module_judged s)

  -- the methods that a class of this base inherits
  abbrev pub methods_above : Judging Ty → Option ℕ → List Method
  methods_above s base = (base_facts (classes_of (module_judged s)) base).methods
