use Rattle.std.proofs.Common.{arith, rules}
use Rattle.pc_source.proofs.LastLine.{last_line_is}
use Rattle.pc_source.proofs.source.last_line.Goals as goal
use Rattle.pc_source.proofs.source.last_line.Goals.{then-loop-start-test+else-bytes-start-ne10, else-loop-start-test}

pub returns : goal.returns
returns c =
    last_line_is c.args.bytes.now c.loop-start.start c.loop-start.invariant.0 c.loop-start.invariant.1
    (λ h. elim c.loop-start-test.branch [
      | then-loop-start-test+else-bytes-start-ne10 w ↦ search rules
      | else-loop-start-test w ↦ absurd (omega arith)
    ])
