use Rattle.std.proofs.Common.{◌≡◌, ◌++◌, map, drop}
use Rattle.std.specs.Prelude.{All}
use Rattle.pc_types.specs.Store.{KeepsTypes}
use Rattle.pc_overrides.specs.Internal.OverrideTests.{methods_above}
use Rattle.pc_overrides.specs.Internal.Representing.{IsKnown}
use Rattle.pc_class.specs.OverrideFindings.{found_at_methods}
use Rattle.pc_class.specs.Tables.{method_with}
use Rattle.pc_class.specs.Parts.{bases_in}
use Rattle.pc_overrides.proofs.finding.find_class_overrides.Given as goal

abbrev pub invariant-loop-method : goal.invariant-loop-method
invariant-loop-method g l = record {
  store : KeepsTypes g.S.TypeStore.has l.fn.store l.store;
  found : l.found.items ++ found_at_methods (bases_in l.judging.classes.now) (methods_above l.judging l.base)
      (map (method_with g.S.TypeStore.tree) (drop l.method-index l.methods)) ≡ l.fn.found.items ++ found_at_methods
      (bases_in l.judging.classes.now) (methods_above l.judging l.base) (map (method_with g.S.TypeStore.tree) l.methods);
  known : All (IsKnown g.S.TypeStore.tree l.judging l.class) l.own.items;
}
