use Rattle.std.proofs.Common.{◌≡◌, drop}
use Rattle.pc_calls.proofs.ErrorsOfCalls.{any_error}
use Rattle.pc_calls.proofs.seats.is_in_error.Given as goal

abbrev pub invariant-loop-offer : goal.invariant-loop-offer
invariant-loop-offer g l = any_error (drop l.offer-index l.offers) ≡ any_error l.offers
