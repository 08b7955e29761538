use Rattle.std.proofs.Common.{◌≡◌, ◌≤◌, ◌-◌}
use Rattle.pc_source.specs.Lines.{line_of}
use Rattle.pc_report.proofs.report.line_at.Given as goal

abbrev pub invariant-loop-start : goal.invariant-loop-start
invariant-loop-start l = record { line : l.line ≡ line_of l.source l.start; onward : l.start ≤ l.byte }

abbrev pub decreases-loop-start : goal.decreases-loop-start
decreases-loop-start l = l.byte - l.start
