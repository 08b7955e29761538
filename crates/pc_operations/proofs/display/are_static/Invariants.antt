use Rattle.std.proofs.Common.{◌≡◌, drop, map, All}
use Rattle.std.specs.List.{list_all}
use Rattle.pc_types.specs.Computed.{static_test}
use Rattle.pc_types.specs.Store.{KeepsTypes}
use Rattle.pc_operations.proofs.display.are_static.Given as goal

abbrev pub invariant-loop-ty : goal.invariant-loop-ty
invariant-loop-ty g l = record {
  kept : KeepsTypes g.S.TypeStore.has l.fn.store l.store;
  types : All (g.S.TypeStore.has l.store) l.types;
  into : g.S.TypeStore.has l.store l.into;
  so_far : list_all (λ t. static_test l.parents t (g.S.TypeStore.tree l.into))
      (drop l.ty-index (map g.S.TypeStore.tree l.types)) ≡ list_all
      (λ t. static_test l.parents t (g.S.TypeStore.tree l.into)) (map g.S.TypeStore.tree l.types);
}
