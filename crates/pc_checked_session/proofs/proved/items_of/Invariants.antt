use Rattle.std.proofs.Common.{◌≡◌, ℕ, List, Option, drop, map, take}
use Rattle.pc_tree.specs.declared.code.Finding.{Finding}
use Rattle.pc_detail_texts.specs.Details.{Detail}
use Rattle.pc_detail_texts.specs.Sentences.{Words}
use Rattle.pc_report.specs.Report.{row_findings}
use Rattle.pc_top.specs.PrintedDetails.{AreLeft}
use Rattle.pc_checked_session.specs.Found.{said_by_item, said_by_row}
use Rattle.pc_checked_session.proofs.proved.items_of.Given as goal

abbrev pub invariant-loop-row : goal.invariant-loop-row
invariant-loop-row l = record {
  rest : (source : List ℕ) (told : Finding → Option (Detail Words)) → AreLeft source told (row_findings l.rows) l.details
      → AreLeft source told (row_findings (drop l.row-index l.rows)) l.left;
  items : (source : List ℕ) (told : Finding → Option (Detail Words)) → AreLeft source told (row_findings l.rows) l.details
      → map said_by_item l.items.items ≡ map (said_by_row told) (take l.row-index l.rows);
}
