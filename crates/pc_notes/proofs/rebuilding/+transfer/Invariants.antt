use Rattle.std.proofs.Common.{◌≡◌, All, map, take}
use Rattle.pc_types.specs.Shape.{nodes}
use Rattle.pc_types.specs.Store.{KeepsTypes}
use Rattle.pc_notes.proofs.rebuilding.+transfer.Given as goal

abbrev pub decreases-transfer : goal.decreases-transfer
decreases-transfer g l = nodes (g.S.TypeStore.tree l.ty.now)

abbrev pub invariant-loop-part : goal.invariant-loop-part
invariant-loop-part g l = record {
  kept : KeepsTypes g.T.TypeStore.has l.fn.into l.into;
  held : All (g.T.TypeStore.has l.into) l.taken.items;
  same : map g.T.TypeStore.tree l.taken.items ≡ map g.S.TypeStore.tree (take l.part-index l.part-items);
}
