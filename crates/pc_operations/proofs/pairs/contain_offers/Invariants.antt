use Rattle.std.proofs.Common.{All}
use Rattle.pc_rules.specs.Operations.{contain_member}
use Rattle.pc_operations.proofs.Offering.{IsOffered}
use Rattle.pc_operations.proofs.pairs.contain_offers.Given as goal

abbrev pub invariant-loop-i : goal.invariant-loop-i
invariant-loop-i g l = record {
  members : All (g.S.TypeStore.has l.store) l.members.items;
  offered : IsOffered g.S.TypeStore.has g.S.TypeStore.tree contain_member l.members.items l.fn.store l.store l.i
      l.offers.items;
}
