use Rattle.std.proofs.Common.{◌≡◌, drop, length}
use Rattle.pc_annotations.specs.Internal.Marks.{with_marks}
use Rattle.pc_annotations.proofs.marks.with_marks.Given as goal

abbrev pub invariant-loop-head : goal.invariant-loop-head
invariant-loop-head l = record {
  count : length l.marks.items ≡ l.count;
  left : with_marks l.count l.initial.marks.items l.heads ≡ with_marks l.count l.marks.items
      (drop l.head-index l.heads);
}
