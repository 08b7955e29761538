use Rattle.pc_statements.proofs.Storing.{AreCodes}
use Rattle.pc_statements.proofs.store_offers.store_codes.Given as goal

abbrev pub invariant-loop-offer : goal.invariant-loop-offer
invariant-loop-offer g l = AreCodes l.offers l.offer-index l.codes.items
