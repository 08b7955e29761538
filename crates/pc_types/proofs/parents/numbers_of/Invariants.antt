use Rattle.std.proofs.Common.{◌≡◌, length}
use Rattle.pc_types.specs.Internal.Numbered.{AreNumbers}
use Rattle.pc_types.proofs.parents.numbers_of.Given as goal

abbrev pub invariant-loop-class : goal.invariant-loop-class
invariant-loop-class l = record {
  count : length l.numbers.items ≡ l.class;
  numbers : AreNumbers l.bases l.numbers.items;
}
