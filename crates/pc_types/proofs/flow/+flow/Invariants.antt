use Rattle.std.proofs.Common.{◌≡◌, ℕ, ◌+◌, ◌*◌, ◌<◌, length, get_or}
use Rattle.pc_types.specs.declared.boxed.BoxType.{BoxType}
use Rattle.pc_types.proofs.Weight.{weight, weights}
use Rattle.pc_types.proofs.Tuples.{PartFlows}
use Rattle.pc_types.proofs.flow.+flow.Given as goal

abbrev pub decreases-flows : goal.decreases-flows
decreases-flows l = 3 * (weight l.s.now + weight l.t.now) + 1

abbrev pub decreases-fits : goal.decreases-fits
decreases-fits l = 3 * (weight l.s.now + weight l.t.now)

abbrev pub decreases-agree : goal.decreases-agree
decreases-agree l = 3 * (weight l.s.now + weight l.t.now) + 2

abbrev pub invariant-each_flows-loop-i : goal.invariant-each_flows-loop-i
invariant-each_flows-loop-i l =
    (length l.ss ≡ length l.ts)
    × ((k : ℕ) (d e : BoxType) → k < l.i → PartFlows l.parents l.gradual l.both (get_or l.ss k d) (get_or l.ts k e))

abbrev pub decreases-each_flows : goal.decreases-each_flows
decreases-each_flows l = 3 * (weights l.ss.now + weights l.ts.now) + 3
