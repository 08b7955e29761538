use Rattle.pc_operations.proofs.Offering.{IsListed}
use Rattle.pc_operations.proofs.offers.offers_label.Given as goal

abbrev pub invariant-loop-offer : goal.invariant-loop-offer
invariant-loop-offer g l = IsListed g.S.TypeStore.has g.S.TypeStore.tree l.parents l.offers l.store l.offer-index
    l.codes.items l.types.items
