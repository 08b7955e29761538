use Rattle.std.proofs.Common.{◌≡◌, ◌≤◌, ◌+◌, ◌-◌, ◌/◌, length, None}
use Rattle.std.specs.Prelude.{All, replicate}
use Rattle.std.specs.Rc.{rc_value}
use Rattle.pc_flow.proofs.chunk.empty_chunks.Given as goal

abbrev pub invariant-loop-chunks : goal.invariant-loop-chunks
invariant-loop-chunks g l = All (λ c. rc_value c ≡ replicate l.width None) l.chunks.items
    × (length l.chunks.items ≤ l.locals / l.width + 1)

abbrev pub decreases-loop-chunks : goal.decreases-loop-chunks
decreases-loop-chunks g l = (l.locals / l.width + 1) - length l.chunks.items
