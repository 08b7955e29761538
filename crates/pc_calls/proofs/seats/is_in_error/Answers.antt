use Rattle.std.proofs.Common.{◌∙◌, sym}
use Rattle.pc_calls.proofs.ErrorsOfCalls.{error_found, error_end, or_first, or_second}
use Rattle.pc_calls.proofs.seats.is_in_error.Goals.{then-is_error-via-then-is_error}
use Rattle.pc_calls.proofs.seats.is_in_error.Goals.{then-is_error-via-else-is_error+then-is_error-2}
use Rattle.pc_calls.proofs.seats.is_in_error.Goals as goal

pub returns-then-is_error : goal.returns-then-is_error
returns-then-is_error g c tree = error_found tree c.args.offers.now c.loop-offer.offer-index c.offer-item.result
    c.loop-offer-test.true c.offer-item.is c.loop-offer.invariant
    (elim c.then-is_error.branch [
      | then-is_error-via-then-is_error w ↦ or_first _ _ (sym c.is_error.ensures ∙ w.if-is_error.true)
      | then-is_error-via-else-is_error+then-is_error-2 w ↦ or_second _ _ (sym w.is_error-else-is_error.ensures
          ∙ w.if-is_error-2.true)
    ])

pub returns : goal.returns
returns g c tree = error_end tree c.args.offers.now c.loop-offer.offer-index c.loop-offer-test.false
    c.loop-offer.invariant
