use Rattle.std.proofs.Common.{◌≡◌, map, take}
use Rattle.pc_types.specs.Shape.{nodes}
use Rattle.pc_flow.proofs.alike.+is_same_type.Given as goal

abbrev pub decreases-is_same_type : goal.decreases-is_same_type
decreases-is_same_type g l = nodes (g.S.TypeStore.tree l.s.now)

abbrev pub invariant-loop-part : goal.invariant-loop-part
invariant-loop-part g l = map g.S.TypeStore.tree (take l.part l.left.items)
    ≡ map g.S.TypeStore.tree (take l.part l.right.items)
