use Rattle.std.proofs.Common.{All}
use Rattle.pc_operations.proofs.Offering.{IsTaken}
use Rattle.pc_operations.proofs.offers.operand_types.Given as goal

abbrev pub invariant-loop-offer : goal.invariant-loop-offer
invariant-loop-offer g l = record {
  held : All (g.S.TypeStore.has l.store) l.types.items;
  taken : IsTaken g.S.TypeStore.tree l.offers l.offer-index l.types.items;
}
