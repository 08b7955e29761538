use Rattle.std.proofs.Common.{◌≡◌, ◌+◌, ◌*◌, length, take}
use Rattle.pc_types.specs.Boxed.{tree_of, trees_in}
use Rattle.pc_types.proofs.Weight.{tree_weight, trees_weight}
use Rattle.pc_types.proofs.Joined.{JoinsTo}
use Rattle.pc_types.proofs.adding.+stays.Given as goal

abbrev pub decreases-stays : goal.decreases-stays
decreases-stays l = 6 * (tree_weight (tree_of l.s.now) + tree_weight (tree_of l.t.now)) + 3

abbrev pub decreases-is_one : goal.decreases-is_one
decreases-is_one l = 6 * (tree_weight (tree_of l.a.now) + tree_weight (tree_of l.b.now)) + 2

abbrev pub decreases-one_stays : goal.decreases-one_stays
decreases-one_stays l = 6 * (tree_weight (tree_of l.a.now) + tree_weight (tree_of l.b.now)) + 1

abbrev pub decreases-parts_stay : goal.decreases-parts_stay
decreases-parts_stay l = 6 * (trees_weight (trees_in l.ss.now) + trees_weight (trees_in l.ts.now)) + 5

abbrev pub decreases-part_stays : goal.decreases-part_stays
decreases-part_stays l = 6 * (tree_weight (tree_of l.s.now) + tree_weight (tree_of l.t.now)) + 4

abbrev pub invariant-parts_stay-loop-i : goal.invariant-parts_stay-loop-i
invariant-parts_stay-loop-i l = (length l.ss ≡ length l.ts) × JoinsTo l.parents l.ss l.ts l.i (take l.i l.ss)
