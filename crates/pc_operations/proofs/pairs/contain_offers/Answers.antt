use Rattle.std.proofs.Common.{arith, ap, ◌∙◌}
use Rattle.std.specs.Prelude.{map}
use Rattle.pc_flow.proofs.Given.{all_kept}
use Rattle.pc_rules.specs.Operations.{contain_member}
use Rattle.pc_operations.proofs.Offering.{offered_none, offered_more, offered_all}
use Rattle.pc_operations.proofs.pairs.contain_offers.Goals as goal

pub loop-i-init : goal.loop-i-init
loop-i-init g c = record {
  members = c.in_ok-members.ensures.held;
  offered = rw c.new-offers.ensures.items (offered_none g.S.TypeStore.has g.S.TypeStore.tree contain_member
      c.in_ok-members.members.items c.args.store.now);
}

pub loop-i-preserved : goal.loop-i-preserved
loop-i-preserved g c =
    let v = c.loop-i.invariant in
    record {
      members = all_kept g.S.TypeStore.has _ _ c.contain_offer.ensures.kept c.in_ok-members.members.items v.members;
      offered = rw c.in_ok-push.ensures.items (offered_more g.S.TypeStore.has g.S.TypeStore.tree contain_member
          c.in_ok-members.members.items c.args.store.now c.loop-i.store c.contain_offer.new.store c.loop-i.i
          c.loop-i.offers.items c.index.result.now c.in_ok-offer.offer (omega arith) c.index.ensures
          c.contain_offer.ensures.kept v.offered c.in_ok-offer.ensures.value);
    }

pub returns-clause-value : goal.returns-clause-value
returns-clause-value g c =
    offered_all g.S.TypeStore.has g.S.TypeStore.tree contain_member c.in_ok-members.members.items c.args.store.now
    c.loop-i.store c.loop-i.i c.loop-i.offers.items (omega arith) c.loop-i.invariant.offered
    ∙ ap (map contain_member) c.in_ok-members.ensures.value
