use Rattle.std.specs.List.{AllByRecursion}
use Rattle.pc_notes.proofs.FirstFlows.{IsPairOf}
use Rattle.pc_notes.proofs.TypesOfFlows.{AreTakenTo}
use Rattle.pc_notes.proofs.by_place.types_of_flows.Given as goal

abbrev pub invariant-loop-entry : goal.invariant-loop-entry
invariant-loop-entry l = record {
  taken : AreTakenTo l.flows l.entry-iterator l.types;
  left : AllByRecursion (IsPairOf l.flows) l.entry-iterator;
}
