use Rattle.std.proofs.Common.{◌≡◌, drop}
use Rattle.std.specs.List.{AllByRecursion}
use Rattle.pc_details.specs.Listed.{FindingsDiffer}
use Rattle.pc_details.specs.Made.{HoldsLeft, HoldsWalk, IsDetailOf, facts_walked}
use Rattle.pc_details.proofs.LeftToTell.{AreSoFar}
use Rattle.pc_details.proofs.explained.details_with.Given as goal

abbrev pub invariant-loop-finding : goal.invariant-loop-finding
invariant-loop-finding l = record {
  holds : HoldsWalk l.findings l.walked;
  facts : facts_walked l.walked ≡ l.facts;
  made : AllByRecursion (IsDetailOf l.facts l.findings) l.details.items;
  apart : FindingsDiffer l.findings → FindingsDiffer (drop l.finding-index l.findings);
  left : FindingsDiffer l.findings → HoldsLeft (drop l.finding-index l.findings) l.walked;
  so_far : FindingsDiffer l.findings → AreSoFar l.facts l.findings l.finding-index l.details.items;
}
