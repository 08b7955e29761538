-- The statements of the laws of details. Own rule of the profile.
use Rattle.std.specs.Prelude.{◌≡◌, ◌≤◌, length, filter, flat_map, true, Contains}
use Rattle.pc_source.specs.declared.place.Place.{Place}
use Rattle.pc_tree.specs.declared.code.Code.{Code}
use Rattle.pc_tree.specs.declared.code.Code.TheVariants.{A1, A8, E09, E10, E11, E12, E14, E20, E23}
use Rattle.pc_tree.specs.declared.code.Finding.{Finding}
use Rattle.pc_tree.specs.Code.{finding}
use Rattle.pc_tree.specs.Tree.{Ann, Module}
use Rattle.pc_scope.specs.Bindings.{Body, bodies}
use Rattle.pc_types.specs.Tree.{Tree}
use Rattle.pc_types.specs.Below.{Static}
use Rattle.pc_types.specs.Assignable.{Assignable}
use Rattle.pc_annotations.specs.Annotations.{reading}
use Rattle.pc_annotations.specs.Bases.{bases_of}
use Rattle.pc_notes.specs.Notes.{is_same_place}
use Rattle.pc_module_rules.specs.Modules.{IsFinding}
use Rattle.pc_module_rules.specs.FlowsOfModules.{FlowsDynamically}
use Rattle.pc_detail_texts.specs.Details as detail
use Rattle.pc_detail_texts.specs.Details.{Detail, Sink, Callable, Misfit}
use Rattle.pc_detail_rules.specs.Annotations.{is_shown}
use Rattle.pc_detail_rules.specs.Explains.{Explains}
use Rattle.pc_detail_rules.specs.Nodes.{exprs_at, anns_in, anns_of_item}

-- a detail that explains a finding
pub record HasDetail (m : Module) (f : Finding) : Type 0 where
  pub detail : Detail Tree
  pub explains : Explains m f detail

-- at each place there is at most one expression
abbrev pub HasOwnPlaces : Module → Type 0
HasOwnPlaces m = (p : Place) → length (exprs_at m p) ≤ 1

-- each place is that of the name of at most one function or method
abbrev pub HasOwnNames : Module → Type 0
HasOwnNames m =
    (p : Place) → length (filter (λ (b : Body). is_same_place p b.function.name.place) (bodies m)) ≤ 1

-- details write out the type of each annotation, and of each part of one
abbrev pub AreShown : Module → Type 0
AreShown m = (a : Ann) → Contains (flat_map anns_in (flat_map anns_of_item m.items)) a
    → is_shown (reading m (bases_of m) a) ≡ true

-- the condition under which a finding with this code has a detail: of most codes there is none
abbrev pub IsFit : Module → Code → Type 0
IsFit m A1 = HasOwnPlaces m
IsFit m E12 = HasOwnPlaces m
IsFit m E14 = HasOwnPlaces m
IsFit m E20 = HasOwnPlaces m
IsFit m E23 = HasOwnPlaces m
IsFit m A8 = HasOwnNames m
IsFit m E11 = HasOwnNames m
IsFit m E09 = AreShown m
IsFit m E10 = AreShown m
IsFit m c = Unit {0}

-- the law that each finding of a module has a detail; it has no other, since the detail is computed
abbrev pub EveryFindingIsExplained : Type 0
EveryFindingIsExplained = (m : Module) (f : Finding) → IsFit m f.code → IsFinding m f → HasDetail m f

-- the law that at E12 the first type is not assignable to the second
abbrev pub WrongFlowsAreNotAssignable : Type 0
WrongFlowsAreNotAssignable = (m : Module) (p : Place) (s t : Tree) (sink : Sink Tree)
    → IsFinding m (finding p E12) → Explains m (finding p E12) (detail.flow s t sink)
    → ¬ (Assignable (bases_of m) s t)

-- at A1 the first type is assignable to the second, but not static to it
pub record IsOnlyAssignable (m : Module) (s t : Tree) : Type 0 where
  pub assignable : Assignable (bases_of m) s t
  pub not_static : ¬ (Static (bases_of m) s t)

-- the law that at A1 the first type is assignable to the second, but not static to it
abbrev pub DynamicFlowsAreNotStatic : Type 0
DynamicFlowsAreNotStatic = (m : Module) (p : Place) (s t : Tree) (sink : Sink Tree)
    → IsFinding m (finding p A1) → Explains m (finding p A1) (detail.flow s t sink) → IsOnlyAssignable m s t

-- the law that the types of a detail of A1 are those that a report of format two shows
abbrev pub DynamicDetailsAreFlows : Type 0
DynamicDetailsAreFlows = (m : Module) (p : Place) (s t : Tree) (sink : Sink Tree)
    → IsFinding m (finding p A1) → Explains m (finding p A1) (detail.flow s t sink) → FlowsDynamically m p s t

-- a misfit that explains E14 at a place
pub record HasMisfit (m : Module) (p : Place) : Type 0 where
  pub what : Callable Tree
  pub misfit : Misfit
  pub explains : Explains m (finding p E14) (detail.call what misfit)

-- the law that where E14 is found there is a misfit, if at each place there is at most one expression
abbrev pub WrongCallsHaveMisfits : Type 0
WrongCallsHaveMisfits = (m : Module) (p : Place) → HasOwnPlaces m → IsFinding m (finding p E14) → HasMisfit m p
