use Rattle.std.proofs.Common.{◌≡◌, All, map, take, Some}
use Rattle.pc_intern.specs.Table.{tree_at}
use Rattle.pc_intern.specs.Store.{IsInterned, tree_of_type}
use Rattle.pc_intern.proofs.store.InternStoreTypeStore.parts.Given as goal

abbrev pub invariant-loop-number : goal.invariant-loop-number
invariant-loop-number l = record {
  held : All (IsInterned l.self) l.parts.items;
  same : map Some (map tree_of_type l.parts.items) ≡ map (tree_at l.self) (take l.number-index l.number-items);
}
