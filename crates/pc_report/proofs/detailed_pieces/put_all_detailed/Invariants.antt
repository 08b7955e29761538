use Rattle.std.proofs.Common.{◌≡◌, ◌++◌, ◌+◌, List, ℕ, drop}
use Rattle.pc_report.specs.Detailed.{further_findings}
use Rattle.pc_report.specs.Pieces.{Puts}
use Rattle.pc_report.proofs.detailed_pieces.put_all_detailed.Given as goal

abbrev pub invariant-loop-row : goal.invariant-loop-row
invariant-loop-row g l = record {
  number : l.number ≡ l.row-index + 1;
  put : (put : List ℕ) × Puts g.W.Write.contents put l.initial.device l.device l.initial.pieces l.pieces
      × (put ++ further_findings l.fn.format l.fn.details (l.row-index + 1) (drop l.row-index l.others)
      ≡ further_findings l.fn.format l.fn.details 1 l.others);
}
