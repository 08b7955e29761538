-- Each dynamic flow of a module is needed, under a heap with instances of the module's classes only.
use Rattle.std.proofs.Common.{List, length}
use Rattle.pc_source.specs.declared.place.Place.{Place}
use Rattle.pc_token.specs.Lexeme.{Lexeme}
use Rattle.pc_tree.specs.Tree.{Module}
use Rattle.pc_grammar.specs.Grammar.Modules.{SpellsModule}
use Rattle.pc_types.specs.Tree.{Tree}
use Rattle.pc_annotations.specs.Bases.{bases_of}
use Rattle.pc_annotations.proofs.Earlier.{smaller}
use Rattle.pc_class.specs.Facts.{classes_of}
use Rattle.pc_module_rules.specs.FlowsOfModules.{FlowsDynamically}
use Rattle.pc_module_rules.proofs.StandingFlows.{flows_dynamic, flows_well_formed}
use Rattle.pc_sound.specs.Needed.{HasNoNever, IsNeededWithin}
use Rattle.pc_sound.proofs.Values.Requirements.{required, required_by_classes}
use Rattle.pc_sound.proofs.Values.RequiredClasses.{below_append, required_below, classes_below_bound}
use Rattle.pc_sound.proofs.Values.ReadTypes.{module_fields_without}
use Rattle.pc_sound.proofs.Heap.FurnishedHeaps.{is_needed_within}
use Rattle.pc_sound.proofs.Regular.RegularParts.{classes_below}
use Rattle.pc_sound.proofs.Regular.RegularModules.{classes_regular}
use Rattle.pc_sound.proofs.Regular.ModuleFlows.{named_below, flow_regular}

pub flow_is_needed : (m : Module) (ts : List Lexeme) → SpellsModule m ts → (p : Place) (s t : Tree)
    → FlowsDynamically m p s t → HasNoNever s → IsNeededWithin (bases_of m) (classes_of m) s t
flow_is_needed m ts spelled p s t flows never =
    let bound = length (classes_of m) in
    let dynamic = flows_dynamic m p s t flows in
    let formed = flows_well_formed m p s t flows in
    let fields = classes_below_bound bound (classes_of m) (λ c.
    (classes_regular (classes_below bound) m (named_below m) c).0) in
    let below = below_append bound (required s) (required_by_classes (classes_of m))
    (required_below bound s (flow_regular m p s t flows)) fields in
    is_needed_within (bases_of m) (smaller m) (classes_of m) (module_fields_without m ts spelled) s t formed.0.0
    formed.1.0 never dynamic.1 below
