use Rattle.std.proofs.Common.{◌≡◌, ◌++◌, drop}
use Rattle.pc_annotations.specs.Internal.Marks.{other_heads}
use Rattle.pc_annotations.proofs.marks.other_heads.Given as goal

abbrev pub invariant-loop-head : goal.invariant-loop-head
invariant-loop-head l =
    l.others.items ++ other_heads l.count (drop l.head-index l.heads) ≡ other_heads l.count l.heads
