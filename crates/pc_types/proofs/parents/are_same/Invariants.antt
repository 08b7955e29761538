use Rattle.std.proofs.Common.{◌≡◌, ◌↔◌, IsTrue, take}
use Rattle.pc_types.proofs.parents.are_same.Given as goal

abbrev pub invariant-loop-i : goal.invariant-loop-i
invariant-loop-i l = IsTrue l.same ↔ (take l.i l.left ≡ take l.i l.right)
