use Rattle.std.proofs.Common.{arith}
use Rattle.pc_statements.proofs.Storing.{codes_more, codes_all}
use Rattle.pc_statements.proofs.store_offers.store_codes.Goals as goal

pub loop-offer-preserved : goal.loop-offer-preserved
loop-offer-preserved g c = codes_more c.args.offers.now c.loop-offer.offer-index c.loop-offer.codes.items
    c.add_found.new.codes.items c.offer-item.result c.loop-offer-test.true c.offer-item.is c.in_ok-add_found.ensures
    c.loop-offer.invariant

pub returns : goal.returns
returns g c tree = codes_all c.args.offers.now tree c.loop-offer.offer-index c.loop-offer.codes.items (omega arith)
    c.loop-offer.invariant
