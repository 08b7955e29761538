use Rattle.std.proofs.Common.{◌≡◌, ◌++◌, drop, length}
use Rattle.pc_tree.specs.Tree.{module_of}
use Rattle.pc_scope.specs.Bindings.{classes_in}
use Rattle.pc_types.specs.Store.{KeepsTypes}
use Rattle.pc_class.specs.OverrideFindings.{overrides_from}
use Rattle.pc_overrides.specs.Internal.Representing.{AreKnown}
use Rattle.pc_overrides.proofs.finding.override_findings.Given as goal

abbrev pub invariant-loop-class : goal.invariant-loop-class
invariant-loop-class g l = record {
  store : KeepsTypes g.S.TypeStore.has l.fn.store l.store;
  found : l.found.items ++ overrides_from (module_of l.tree) l.class
      (drop l.class (classes_in (module_of l.tree).items)) ≡ l.fn.found.items ++ overrides_from (module_of l.tree) 0
      (classes_in (module_of l.tree).items);
  judged : AreKnown g.S.TypeStore.tree l.judging l.judged.items;
  many : length l.judged.items ≡ l.class;
}
