use Rattle.std.proofs.Common.{◌≡◌, List, take}
use Rattle.std.specs.List.{AllByRecursion}
use Rattle.pc_source.specs.Lines.{line_of, column_of}
use Rattle.pc_report.specs.Report.{row_findings, IsPlaced, ExplainsRows}
use Rattle.pc_report.specs.Flows.{FlowEntry, HasFlows}
use Rattle.pc_report.proofs.report.rows.Given as goal

abbrev pub invariant-loop-finding : goal.invariant-loop-finding
invariant-loop-finding l = record {
  findings : row_findings l.rows.items ≡ take l.finding-index l.findings;
  placed : AllByRecursion (IsPlaced l.source) l.rows.items;
  explained : (listed : List FlowEntry) → HasFlows listed l.flows → ExplainsRows listed l.rows.items;
  text : l.text ≡ l.source;
  line : l.position.line ≡ line_of l.source l.position.byte;
  column : l.position.column ≡ column_of l.source l.position.byte;
}
