use Rattle.std.proofs.Common.{arith, sym, ◌∙◌}
use Rattle.pc_operations.proofs.Offering.{wrong_is, wrong_here, right_here, none_wrong}
use Rattle.pc_operations.proofs.offers.is_wrong.Goals as goal

pub loop-offer-preserved : goal.loop-offer-preserved
loop-offer-preserved g c = right_here c.args.offers.now c.loop-offer.offer-index c.offer-item.result
    c.loop-offer-test.true c.offer-item.is (sym c.is_error.ensures ∙ c.if-is_error.false) c.loop-offer.invariant

pub returns-then-is_error : goal.returns-then-is_error
returns-then-is_error g c tree = sym (wrong_here c.args.offers.now c.loop-offer.offer-index c.offer-item.result
    c.loop-offer-test.true c.offer-item.is (sym c.is_error.ensures ∙ c.if-is_error.true) c.loop-offer.invariant)
    ∙ wrong_is tree c.args.offers.now

pub returns : goal.returns
returns g c tree = sym (none_wrong c.args.offers.now c.loop-offer.offer-index (omega arith) c.loop-offer.invariant)
    ∙ wrong_is tree c.args.offers.now
