use Rattle.std.proofs.Common.{◌≡◌, ℕ, ◌+◌, ◌*◌, ◌<◌, length, get_or}
use Rattle.pc_types.specs.declared.boxed.BoxType.{BoxType}
use Rattle.pc_types.proofs.Weight.{weight, weights}
use Rattle.pc_types.proofs.Tuples.{AreEqual}
use Rattle.pc_types.proofs.compare.+same.Given as goal

abbrev pub decreases-is_same : goal.decreases-is_same
decreases-is_same l = 2 * (weight l.s.now + weight l.t.now)

abbrev pub decreases-are_same : goal.decreases-are_same
decreases-are_same l = 2 * (weights l.ss.now + weights l.ts.now) + 1

abbrev pub invariant-are_same-loop-i : goal.invariant-are_same-loop-i
invariant-are_same-loop-i l =
    (length l.ss ≡ length l.ts)
    × ((k : ℕ) → k < l.i → (d e : BoxType) → AreEqual (get_or l.ss k d) (get_or l.ts k e))
