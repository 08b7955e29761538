use Rattle.std.proofs.Common.{◌≡◌}
use Rattle.pc_source.specs.Lines.{line_of, column_of}
use Rattle.pc_report.proofs.report.walked.Given as goal

abbrev pub invariant-loop-at : goal.invariant-loop-at
invariant-loop-at l = record {
  line : l.position.line ≡ line_of l.source l.at;
  column : l.position.column ≡ column_of l.source l.at;
}
