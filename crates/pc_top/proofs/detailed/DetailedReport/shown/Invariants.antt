use Rattle.std.proofs.Common.{List, ℕ, Option, drop, take}
use Rattle.pc_tree.specs.declared.code.Finding.{Finding}
use Rattle.pc_detail_texts.specs.Details.{Detail}
use Rattle.pc_detail_texts.specs.Sentences.{Words}
use Rattle.pc_report.specs.Report.{row_findings}
use Rattle.pc_top.specs.DetailedTexts.{AreDetailsOfRows}
use Rattle.pc_top.specs.PrintedDetails.{AreLeft}
use Rattle.pc_top.proofs.detailed.DetailedReport.shown.Given as goal

abbrev pub invariant-loop-row : goal.invariant-loop-row
invariant-loop-row l = record {
  left : (source : List ℕ) (told : Finding → Option (Detail Words))
      → AreLeft source told (row_findings l.row-items) l.self.details.items
      → AreLeft source told (row_findings (drop l.row-index l.row-items)) l.details;
  details : (source : List ℕ) (told : Finding → Option (Detail Words))
      → AreLeft source told (row_findings l.row-items) l.self.details.items
      → AreDetailsOfRows source told (take l.row-index l.row-items) l.shown.items;
}
