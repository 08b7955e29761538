use Rattle.std.proofs.Common.{All}
use Rattle.pc_class.specs.Tables.{HasEntries, classes_with}
use Rattle.pc_operations.specs.JudgedOperations.{offer_on}
use Rattle.pc_operations.proofs.Offering.{IsOffered}
use Rattle.pc_operations.proofs.offers.member_offers.Given as goal

abbrev pub invariant-loop-i : goal.invariant-loop-i
invariant-loop-i g l = record {
  members : All (g.S.TypeStore.has l.store) l.members.items;
  classes : HasEntries (g.S.TypeStore.has l.store) l.classes;
  offered : IsOffered g.S.TypeStore.has g.S.TypeStore.tree (offer_on l.parents
      (classes_with g.S.TypeStore.tree l.classes) l.operation) l.members.items l.fn.store l.store l.i l.offers.items;
}
