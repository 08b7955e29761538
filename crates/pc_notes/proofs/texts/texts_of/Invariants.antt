use Rattle.std.proofs.Common.{◌≡◌, ◌++◌, map, List}
use Rattle.std.specs.List.{AllByRecursion}
use Rattle.pc_tree.specs.declared.code.Code.{Code}
use Rattle.pc_annotations.specs.Named.{named_module}
use Rattle.pc_notes.specs.Notes.{Note}
use Rattle.pc_notes.specs.Texts.{IsFlowText, HasFirstFlows, HasGivenFlows, HaveTexts, places_of}
use Rattle.pc_notes.proofs.FirstFlows.{IsPairOf}
use Rattle.pc_notes.proofs.texts.texts_of.Given as goal

abbrev pub invariant-loop-entry : goal.invariant-loop-entry
invariant-loop-entry l = record {
  places : places_of l.texts.items ++ map (λ e. e.0) l.entry-iterator ≡ map (λ e. e.0) l.flows.entries;
  each : (code : Code) (notes : List Note) → HasFirstFlows code notes l.flows
      → AllByRecursion (IsFlowText (named_module l.names) code notes) l.texts.items;
  left : AllByRecursion (IsPairOf l.flows) l.entry-iterator;
  given : HasGivenFlows l.flows;
  named : HaveTexts (named_module l.names) l.known;
}
