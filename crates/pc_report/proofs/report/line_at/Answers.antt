use Rattle.std.proofs.Common.{◌≤◌, ◌==◌, arith}
use Rattle.pc_report.proofs.Lines.{counted_on}
use Rattle.pc_report.proofs.report.line_at.Goals as goal

pub loop-start-preserved : goal.loop-start-preserved
loop-start-preserved c =
    let q : c.loop-start.start ≤ c.min-end.result = omega arith in
    record {
      line = omega (arith, counted_on (λ b. b == 10) c.args.source.now c.loop-start.start c.min-end.result q);
      onward = omega arith;
    }
