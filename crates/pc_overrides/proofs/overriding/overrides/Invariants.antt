use Rattle.std.specs.Prelude.{IsTrue}
use Rattle.pc_types.specs.Store.{KeepsTypes}
use Rattle.pc_class.specs.Tables.{method_with}
use Rattle.pc_overrides.proofs.Parts.{meets_first}
use Rattle.pc_overrides.proofs.overriding.overrides.Given as goal

abbrev pub invariant-loop-part : goal.invariant-loop-part
invariant-loop-part g l = record {
  store : KeepsTypes g.S.TypeStore.has l.fn.store l.store;
  met : IsTrue (meets_first l.relation l.parents (method_with g.S.TypeStore.tree l.new)
      (method_with g.S.TypeStore.tree l.old) l.part);
}
