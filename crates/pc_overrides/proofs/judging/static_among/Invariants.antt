use Rattle.std.proofs.Common.{◌≡◌, ◌&&◌, drop}
use Rattle.std.specs.List.{list_all}
use Rattle.pc_types.specs.Store.{KeepsTypes}
use Rattle.pc_class.specs.Tables.{method_with}
use Rattle.pc_class.specs.Parts.{bases_in}
use Rattle.pc_overrides.specs.declared.overriding.Relation.TheVariants.{Static, Assignable}
use Rattle.pc_overrides.specs.Internal.OverrideTests.{meets_demand}
use Rattle.pc_overrides.proofs.judging.static_among.Given as goal

abbrev pub invariant-loop-demand : goal.invariant-loop-demand
invariant-loop-demand g l = record {
  store : KeepsTypes g.S.TypeStore.has l.fn.store l.store;
  good : list_all (meets_demand g.S.TypeStore.tree Assignable (bases_in l.judging.classes.now)
      (method_with g.S.TypeStore.tree l.method)) l.demands
      ≡ list_all (meets_demand g.S.TypeStore.tree Assignable (bases_in l.judging.classes.now)
      (method_with g.S.TypeStore.tree l.method)) (drop l.demand-index l.demands);
  static : list_all (meets_demand g.S.TypeStore.tree Static (bases_in l.judging.classes.now)
      (method_with g.S.TypeStore.tree l.method)) l.demands
      ≡ (l.is_static && list_all (meets_demand g.S.TypeStore.tree Static (bases_in l.judging.classes.now)
      (method_with g.S.TypeStore.tree l.method)) (drop l.demand-index l.demands));
}
