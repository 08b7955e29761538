-- The laws on the flows of a module: A1 is found at a place exactly if a flow under the lawful labelling of the module
-- has that code; the first one there flows only because Any is consistent with every type. The same of E12, whose first
-- flow is not assignable. Both types of each are well-formed; and the computed flow is the first one, also in a walk
-- that keeps types. Own rule of the profile.
use Rattle.std.specs.Prelude.{◌≡◌, ◌↔◌, List, [], Option, Some, None, true, false}
use Rattle.pc_source.specs.declared.place.Place.{Place}
use Rattle.pc_tree.specs.declared.code.Code.{Code}
use Rattle.pc_tree.specs.declared.code.Code.TheVariants.{A1, E12}
use Rattle.pc_tree.specs.Code.{finding}
use Rattle.pc_tree.specs.Tree.{Module}
use Rattle.pc_types.specs.Tree.{Tree}
use Rattle.pc_types.specs.Below.{Static}
use Rattle.pc_types.specs.Assignable.{Assignable}
use Rattle.pc_types.specs.WellFormed.{IsWellFormed}
use Rattle.pc_class.specs.Bases.{bases_of}
use Rattle.pc_notes.specs.Notes.{Note, flow_noted}
use Rattle.pc_module_rules.specs.FirstAt.{first_flow_at}
use Rattle.pc_module_rules.specs.Modules.{Labelling, IsLawful, IsFinding}
use Rattle.pc_rules.specs.Labels.{is_of_scopes}
use Rattle.pc_module_rules.specs.Computed.DynamicFlows.{computed_flow, dynamic_flow}
use Rattle.pc_module_rules.specs.Computed.Modules.{module_notes}
use Rattle.pc_module_rules.specs.FlowsOfModules.{coded_flows, FlowsWith, FlowsDynamically, HasDynamicFlow, FlowsWrongly}
use Rattle.pc_module_rules.specs.FlowsOfModules.{HasWrongFlow}

-- notes hold exactly the dynamic flows of a module: at each place, the two types of the dynamic flow there
pub record TellsFlows (m : Module) (notes : List Note) : Type 0 where
  pub just : (p : Place) (s t : Tree) → flow_noted A1 p notes ≡ Some (s, t) ↔ FlowsDynamically m p s t

-- the law that A1 is found at a place exactly if a type flows dynamically there
abbrev pub DynamicFlowsAreFound : Type 0
DynamicFlowsAreFound = (m : Module) (p : Place) → IsFinding m (finding p A1) ↔ HasDynamicFlow m p

-- the law that a type that flows dynamically is assignable to the type that it flows into, but not a static subtype of
-- it
abbrev pub DynamicFlowsAreDynamic : Type 0
DynamicFlowsAreDynamic = (m : Module) (p : Place) (s t : Tree) → FlowsDynamically m p s t
    → Assignable (bases_of m) s t × ¬ (Static (bases_of m) s t)

-- the law that both types are in normal form, without absorbed members and of at most 256 nodes
abbrev pub DynamicFlowsAreWellFormed : Type 0
DynamicFlowsAreWellFormed = (m : Module) (p : Place) (s t : Tree) → FlowsDynamically m p s t
    → IsWellFormed (bases_of m) s × IsWellFormed (bases_of m) t

-- the law that no other types flow dynamically at the same place
abbrev pub DynamicFlowsAreUnique : Type 0
DynamicFlowsAreUnique = (m : Module) (p : Place) (s t u v : Tree) → FlowsDynamically m p s t → FlowsDynamically m p u v
    → (s ≡ u) × (t ≡ v)

-- the law that the computed flow at a place is the dynamic flow there
abbrev pub DynamicFlowsAreComputed : Type 0
DynamicFlowsAreComputed = (m : Module) (p : Place) (s t : Tree)
    → dynamic_flow m p ≡ Some (s, t) ↔ FlowsDynamically m p s t

-- the law that E12 is found at a place exactly if a type flows wrongly there
abbrev pub WrongFlowsAreFound : Type 0
WrongFlowsAreFound = (m : Module) (p : Place) → IsFinding m (finding p E12) ↔ HasWrongFlow m p

-- the law that a type that flows wrongly is not assignable to the type that it flows into
abbrev pub WrongFlowsAreWrong : Type 0
WrongFlowsAreWrong = (m : Module) (p : Place) (s t : Tree) → FlowsWrongly m p s t → ¬ (Assignable (bases_of m) s t)

-- the law that both types are in normal form, without absorbed members and of at most 256 nodes
abbrev pub WrongFlowsAreWellFormed : Type 0
WrongFlowsAreWellFormed = (m : Module) (p : Place) (s t : Tree) → FlowsWrongly m p s t
    → IsWellFormed (bases_of m) s × IsWellFormed (bases_of m) t

-- the law that the computed flow with a code at a place is the first flow there with that code; scope analysis reports
-- no flow
abbrev pub FlowsAreComputed : Type 0
FlowsAreComputed = (c : Code) → is_of_scopes c ≡ false → (m : Module) (p : Place) (s t : Tree)
    → computed_flow c m p ≡ Some (s, t) ↔ FlowsWith c m p s t

-- the law that the first flow noted with a code at a place, by a walk that keeps types, is the first flow there with
-- that code under the lawful labelling; scope analysis reports no flow
abbrev pub FirstFlowsAreNoted : Type 0
FirstFlowsAreNoted = (c : Code) → is_of_scopes c ≡ false → (m : Module) (labels : Labelling m) → IsLawful m labels
    → (p : Place) → flow_noted c p (module_notes true m []) ≡ first_flow_at p (coded_flows c m labels)

-- types of a store that mean the two types that flow dynamically at a place, or none if A1 is not found there
abbrev pub ExplainsPlace : {Store Ty : Type 0} → (has : Store → Ty → Type 0) → (tree : Ty → Tree) → Module → Place
    → Store → Option (Ty × Ty) → Type 0
ExplainsPlace has tree m p store None = ¬ (IsFinding m (finding p A1))
ExplainsPlace has tree m p store (Some pair) = has store pair.0 × has store pair.1
    × FlowsDynamically m p (tree pair.0) (tree pair.1)
