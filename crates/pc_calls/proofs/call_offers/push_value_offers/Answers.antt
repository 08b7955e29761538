use Rattle.std.proofs.Common.{arith}
use Rattle.pc_calls.proofs.CallsKept.{item_held, values_more, values_all}
use Rattle.pc_calls.proofs.call_offers.push_value_offers.Goals as goal

pub value_offer-requires : goal.value_offer-requires
value_offer-requires g c = item_held g.S.TypeStore.has c.args.store.now c.loop-i.store c.in_ok-members.members.items
    c.loop-i.i _ c.loop-i.invariant.kept c.in_ok-members.ensures.held (omega arith) c.index.ensures

pub loop-i-preserved : goal.loop-i-preserved
loop-i-preserved g c =
    rw c.in_ok-push_offer.ensures
    (values_more g.S.TypeStore.has g.S.TypeStore.tree c.args.store.now c.loop-i.store c.value_offer.new.store _
    c.loop-i.offers.items c.in_ok-members.members.items c.loop-i.i c.index.result.now c.in_ok-offer.offer
    (omega arith) c.index.ensures c.value_offer.ensures.kept c.loop-i.invariant c.in_ok-offer.ensures.offer)

pub returns-clause-offers : goal.returns-clause-offers
returns-clause-offers g c = values_all g.S.TypeStore.has g.S.TypeStore.tree c.args.store.now c.loop-i.store _
    c.loop-i.offers.items c.in_ok-members.members.items c.loop-i.i _ (omega arith) c.in_ok-members.ensures.value
    c.loop-i.invariant
