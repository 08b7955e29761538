use Rattle.std.proofs.Common.{◌≡◌, length}
use Rattle.pc_types.specs.Internal.Leaps.{AreLeaps}
use Rattle.pc_types.proofs.parents.rungs_of.Given as goal

abbrev pub invariant-loop-class : goal.invariant-loop-class
invariant-loop-class l = record {
  count : length l.rungs.items ≡ l.class;
  leaps : AreLeaps l.bases l.rungs.items;
}
