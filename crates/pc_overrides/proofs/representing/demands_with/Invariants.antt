use Rattle.std.proofs.Common.{take}
use Rattle.pc_types.specs.Store.{KeepsTypes}
use Rattle.pc_annotations.specs.Bases.{bases_of}
use Rattle.pc_class.specs.Tables.{method_with}
use Rattle.pc_overrides.specs.Internal.OverrideTests.{module_judged}
use Rattle.pc_overrides.specs.Internal.Representing.{AreListed, AreWith}
use Rattle.pc_overrides.proofs.representing.demands_with.Given as goal

abbrev pub invariant-loop-other : goal.invariant-loop-other
invariant-loop-other g l = record {
  store : KeepsTypes g.S.TypeStore.has l.fn.store l.store;
  listed : AreListed g.S.TypeStore.tree l.judging l.demands.items;
  asked : AreWith g.S.TypeStore.tree (bases_of (module_judged l.judging)) l.demands.items
      (method_with g.S.TypeStore.tree l.method) (take l.other-index l.others);
}
