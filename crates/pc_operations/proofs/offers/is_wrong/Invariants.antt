use Rattle.std.proofs.Common.{◌≡◌, drop}
use Rattle.pc_operations.proofs.Offering.{some_wrong}
use Rattle.pc_operations.proofs.offers.is_wrong.Given as goal

abbrev pub invariant-loop-offer : goal.invariant-loop-offer
invariant-loop-offer g l = some_wrong (drop l.offer-index l.offers) ≡ some_wrong l.offers
