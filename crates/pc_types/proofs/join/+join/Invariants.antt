use Rattle.std.proofs.Common.{◌≡◌, ◌+◌, ◌*◌, length}
use Rattle.pc_types.specs.Boxed.{tree_of, trees_in}
use Rattle.pc_types.proofs.Weight.{tree_weight, trees_weight}
use Rattle.pc_types.proofs.Joined.{JoinsTo}
use Rattle.pc_types.proofs.join.+join.Given as goal

abbrev pub decreases-joined : goal.decreases-joined
decreases-joined l = 6 * (tree_weight (tree_of l.s.now) + tree_weight (tree_of l.t.now)) + 4

abbrev pub decreases-ruled : goal.decreases-ruled
decreases-ruled l = 6 * (tree_weight (tree_of l.s.now) + tree_weight (tree_of l.t.now)) + 3

abbrev pub decreases-merged : goal.decreases-merged
decreases-merged l = 6 * (tree_weight (tree_of l.s.now) + tree_weight (tree_of l.t.now)) + 2

abbrev pub decreases-one_ahead : goal.decreases-one_ahead
decreases-one_ahead l = 6 * (tree_weight (tree_of l.a.now) + tree_weight (tree_of l.b.now)) + 1

abbrev pub decreases-one : goal.decreases-one
decreases-one l = 6 * (tree_weight (tree_of l.a.now) + tree_weight (tree_of l.b.now))

abbrev pub decreases-joined_parts : goal.decreases-joined_parts
decreases-joined_parts l = 6 * (trees_weight (trees_in l.ss.now) + trees_weight (trees_in l.ts.now)) + 5

abbrev pub invariant-joined_parts-loop-i : goal.invariant-joined_parts-loop-i
invariant-joined_parts-loop-i l = (length l.ss ≡ length l.ts) × JoinsTo l.parents l.ss l.ts l.i l.parts.items
