use Rattle.std.proofs.Common.{arith, ap, ◌∙◌}
use Rattle.std.specs.Prelude.{map}
use Rattle.pc_class.specs.Tables.{classes_with}
use Rattle.pc_flow.proofs.Given.{all_kept}
use Rattle.pc_statements.specs.Storing.{store_on}
use Rattle.pc_rules.proofs.Kept.{entries_kept}
use Rattle.pc_statements.proofs.Storing.{stores_none, stores_more, stores_all}
use Rattle.pc_statements.proofs.store_offers.store_offers.Goals as goal

pub loop-i-init : goal.loop-i-init
loop-i-init g c = record {
  members = c.in_ok-members.ensures.held;
  classes = c.requires.classes;
  offered = rw c.new-offers.ensures.items (stores_none g.S.TypeStore.has g.S.TypeStore.tree
      (store_on (classes_with g.S.TypeStore.tree c.args.classes.now) c.args.target) c.in_ok-members.members.items
      c.args.store.now);
}

pub loop-i-preserved : goal.loop-i-preserved
loop-i-preserved g c =
    let v = c.loop-i.invariant in
    record {
      members = all_kept g.S.TypeStore.has _ _ c.store_on.ensures.kept c.in_ok-members.members.items v.members;
      classes = entries_kept (g.S.TypeStore.has _) (g.S.TypeStore.has _) c.store_on.ensures.kept c.args.classes.now
          v.classes;
      offered = rw c.in_ok-push.ensures.items (stores_more g.S.TypeStore.has g.S.TypeStore.tree
          (store_on (classes_with g.S.TypeStore.tree c.args.classes.now) c.args.target) c.in_ok-members.members.items
          c.args.store.now c.loop-i.store c.store_on.new.store c.loop-i.i c.loop-i.offers.items c.index.result.now
          c.in_ok-offer.offer (omega arith) c.index.ensures c.store_on.ensures.kept v.offered
          c.in_ok-offer.ensures.value);
    }

pub returns-clause-value : goal.returns-clause-value
returns-clause-value g c =
    stores_all g.S.TypeStore.has g.S.TypeStore.tree (store_on (classes_with g.S.TypeStore.tree c.args.classes.now)
    c.args.target) c.in_ok-members.members.items c.args.store.now c.loop-i.store c.loop-i.i c.loop-i.offers.items
    (omega arith) c.loop-i.invariant.offered
    ∙ ap (map (store_on (classes_with g.S.TypeStore.tree c.args.classes.now) c.args.target))
    c.in_ok-members.ensures.value
