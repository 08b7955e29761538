use Rattle.std.proofs.Common.{All}
use Rattle.pc_class.specs.Tables.{HasEntries, classes_with}
use Rattle.pc_statements.specs.Storing.{store_on}
use Rattle.pc_statements.proofs.Storing.{AreStores}
use Rattle.pc_statements.proofs.store_offers.store_offers.Given as goal

abbrev pub invariant-loop-i : goal.invariant-loop-i
invariant-loop-i g l = record {
  members : All (g.S.TypeStore.has l.store) l.members.items;
  classes : HasEntries (g.S.TypeStore.has l.store) l.classes;
  offered : AreStores g.S.TypeStore.has g.S.TypeStore.tree (store_on (classes_with g.S.TypeStore.tree l.classes)
      l.target) l.members.items l.fn.store l.store l.i l.offers.items;
}
