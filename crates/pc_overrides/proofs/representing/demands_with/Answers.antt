use Rattle.std.proofs.Common.{◌≡◌, sym, subst}
use Rattle.pc_annotations.specs.Bases.{bases_of}
use Rattle.pc_class.specs.Tables.{method_with}
use Rattle.pc_overrides.specs.Internal.OverrideTests.{module_judged}
use Rattle.pc_overrides.specs.Internal.Representing.{AreListed}
use Rattle.pc_overrides.proofs.ClassOverrides.{entries_keep}
use Rattle.pc_overrides.proofs.Demands.{with_none, with_more}
use Rattle.pc_overrides.proofs.representing.demands_with.Goals as goal

pub loop-other-init : goal.loop-other-init
loop-other-init g c =
    let j = c.args.judging.now in
    let tree = g.S.TypeStore.tree in
    let own = c.in_ok-demands.demands.items in
    let demands = c.reserve_exact.new.self.items in
    let same : demands ≡ own = c.reserve_exact.ensures.items in record {
      store = λ t h. h;
      listed = subst (AreListed tree j) (sym same) (c.in_ok-demands.ensures.listed tree j c.requires.method);
      asked = with_none tree (bases_of (module_judged j)) own demands (method_with tree c.args.method.now) same
          (λ relation z. c.in_ok-demands.ensures.own tree relation (bases_of (module_judged j)) z);
    }

pub add_demand-requires-clause-table : goal.add_demand-requires-clause-table
add_demand-requires-clause-table g c =
    let has = g.S.TypeStore.has in
    entries_keep (has c.args.store.now) (has c.loop-other.store) c.args.judging.now.classes.now
    c.loop-other.invariant.store c.requires.table

pub loop-other-preserved : goal.loop-other-preserved
loop-other-preserved g c =
    let j = c.args.judging.now in
    let tree = g.S.TypeStore.tree in record {
      store = λ t h. c.add_demand.ensures.kept t (c.loop-other.invariant.store t h);
      listed = c.in_ok-add_demand.ensures.listed;
      asked = with_more tree (bases_of (module_judged j)) c.loop-other.demands.items c.add_demand.new.demands.items
          (method_with tree c.args.method.now) c.args.others.now c.loop-other.other-index c.other-item.result
          c.loop-other-test.true c.other-item.is c.loop-other.invariant.asked c.in_ok-add_demand.ensures.more;
    }
