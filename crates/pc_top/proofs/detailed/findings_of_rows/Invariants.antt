use Rattle.std.proofs.Common.{◌≡◌, take}
use Rattle.pc_report.specs.Report.{row_findings}
use Rattle.pc_top.proofs.detailed.findings_of_rows.Given as goal

abbrev pub invariant-loop-row : goal.invariant-loop-row
invariant-loop-row l = l.found.items ≡ row_findings (take l.row-index l.rows)
