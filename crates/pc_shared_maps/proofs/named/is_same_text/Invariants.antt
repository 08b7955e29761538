use Rattle.std.proofs.Common.{◌≡◌, take}
use Rattle.pc_shared_maps.proofs.named.is_same_text.Given as goal

abbrev pub invariant-loop-i : goal.invariant-loop-i
invariant-loop-i l = take l.i l.left ≡ take l.i l.right
