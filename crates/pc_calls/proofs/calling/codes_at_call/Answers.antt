use Rattle.pc_calls.proofs.ErrorsOfCalls.{call_more, call_all}
use Rattle.pc_calls.proofs.calling.codes_at_call.Goals as goal

pub loop-offer-preserved : goal.loop-offer-preserved
loop-offer-preserved g c = rw c.in_ok-add_found.ensures (call_more c.loop-offer.codes.items _ c.args.offers.now
    c.loop-offer.offer-index c.offer-item.result c.loop-offer-test.true c.offer-item.is c.loop-offer.invariant)

pub returns : goal.returns
returns g c = call_all c.loop-offer.codes.items _ c.args.offers.now c.loop-offer.offer-index c.loop-offer-test.false
    c.loop-offer.invariant
