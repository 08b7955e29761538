use Rattle.pc_annotations.proofs.Walking.{IsWalked}
use Rattle.pc_annotations.proofs.marks.are_unrelated.Given as goal

abbrev pub invariant-loop-class : goal.invariant-loop-class
invariant-loop-class l = IsWalked l.parents l.initial.within.items l.within.items l.class
