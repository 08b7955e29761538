use Rattle.std.proofs.Common.{All}
use Rattle.pc_statements.proofs.Storing.{AreTaken}
use Rattle.pc_statements.proofs.store_offers.store_index_types.Given as goal

abbrev pub invariant-loop-offer : goal.invariant-loop-offer
invariant-loop-offer g l = record {
  held : All (g.S.TypeStore.has l.store) l.types.items;
  taken : AreTaken g.S.TypeStore.tree l.offers (λ o. o.takes) l.offer-index l.types.items;
}
