use Rattle.std.proofs.Common.{◌≡◌, length, take}
use Rattle.pc_class.specs.Tables.{parameters_with}
use Rattle.pc_overrides.proofs.alike.is_alike.Given as goal

abbrev pub invariant-loop-number : goal.invariant-loop-number
invariant-loop-number g l = record {
  many : length l.left ≡ length l.right;
  same : parameters_with g.S.TypeStore.tree (take l.number l.left)
      ≡ parameters_with g.S.TypeStore.tree (take l.number l.right);
}
