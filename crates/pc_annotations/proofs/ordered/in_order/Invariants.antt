use Rattle.std.proofs.Common.{◌≡◌, All, map, vec_len}
use Rattle.pc_annotations.specs.Annotations.{in_union_order}
use Rattle.pc_annotations.proofs.Ordering.{placed_each}
use Rattle.pc_annotations.proofs.ordered.in_order.Given as goal

abbrev pub invariant-loop-ty : goal.invariant-loop-ty
invariant-loop-ty g l = record {
  left : All (g.S.TypeStore.has l.store) l.types.items;
  held : All (g.S.TypeStore.has l.store) l.ordered.items;
  placed : placed_each (map g.S.TypeStore.tree l.types.items) (map g.S.TypeStore.tree l.ordered.items) ≡ in_union_order
      (map g.S.TypeStore.tree l.fn.types.items);
}

abbrev pub decreases-loop-ty : goal.decreases-loop-ty
decreases-loop-ty g l = vec_len l.types
