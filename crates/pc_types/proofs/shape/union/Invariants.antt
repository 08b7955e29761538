use Rattle.std.proofs.Common.{◌≡◌, ◌≤◌, length, drop, map}
use Rattle.pc_types.specs.Shape.{union}
use Rattle.pc_types.specs.Boxed.{tree_of}
use Rattle.pc_types.proofs.shape.union.Given as goal

abbrev pub invariant-loop-at : goal.invariant-loop-at
invariant-loop-at l = record {
  within : l.at ≤ length l.types;
  made : tree_of l.out ≡ union (map tree_of (drop l.at l.types));
}

abbrev pub decreases-loop-at : goal.decreases-loop-at
decreases-loop-at l = l.at
