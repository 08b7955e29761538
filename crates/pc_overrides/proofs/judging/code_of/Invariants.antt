use Rattle.std.proofs.Common.{◌≡◌, ◌&&◌}
use Rattle.std.specs.Prelude.{string_bytes}
use Rattle.std.specs.List.{list_all}
use Rattle.pc_types.specs.Store.{KeepsTypes}
use Rattle.pc_class.specs.Overrides.{overridden}
use Rattle.pc_class.specs.OverrideFindings.{is_static_to, is_good_to}
use Rattle.pc_overrides.specs.Internal.OverrideTests.{methods_above}
use Rattle.pc_class.specs.Tables.{method_with}
use Rattle.pc_class.specs.Parts.{bases_in}
use Rattle.pc_class.proofs.TableFields.{steps_left}
use Rattle.pc_overrides.proofs.judging.code_of.Given as goal

abbrev pub invariant-loop-at : goal.invariant-loop-at
invariant-loop-at g l = record {
  store : KeepsTypes g.S.TypeStore.has l.fn.store l.store;
  good : list_all (is_good_to (bases_in l.judging.classes.now) (method_with g.S.TypeStore.tree l.method))
      (overridden (methods_above l.judging l.fn.base) (string_bytes l.method.name))
      ≡ list_all (is_good_to (bases_in l.judging.classes.now) (method_with g.S.TypeStore.tree l.method))
      (overridden (methods_above l.judging l.at) (string_bytes l.method.name));
  static : (l.others && list_all (is_static_to (bases_in l.judging.classes.now) (method_with g.S.TypeStore.tree l.method))
      (overridden (methods_above l.judging l.fn.base) (string_bytes l.method.name)))
      ≡ (l.is_static && list_all (is_static_to (bases_in l.judging.classes.now) (method_with g.S.TypeStore.tree l.method))
      (overridden (methods_above l.judging l.at) (string_bytes l.method.name)));
}

abbrev pub decreases-loop-at : goal.decreases-loop-at
decreases-loop-at g l = steps_left l.at
