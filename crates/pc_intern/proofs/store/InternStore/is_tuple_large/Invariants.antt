use Rattle.std.proofs.Common.{◌≡◌, ◌≤◌, map, take}
use Rattle.pc_types.specs.Tree.{TupleOf}
use Rattle.pc_types.specs.Shape.{nodes, trees}
use Rattle.pc_intern.specs.Store.{tree_of_type}
use Rattle.pc_intern.proofs.store.InternStore.is_tuple_large.Given as goal

abbrev pub invariant-loop-ty : goal.invariant-loop-ty
invariant-loop-ty l = record {
  counted : l.nodes ≡ nodes (TupleOf (trees (map tree_of_type (take l.ty-index l.types))));
  small : l.nodes ≤ 256;
}
