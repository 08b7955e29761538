use Rattle.std.proofs.Common.{◌++◌, map, drop}
use Rattle.pc_rules.specs.Calls.{value_offer}
use Rattle.pc_calls.specs.JudgedCalls.{offer_called}
use Rattle.pc_calls.proofs.CallsKept.{IsAdded}
use Rattle.pc_calls.proofs.call_offers.push_value_offers.Given as goal

abbrev pub invariant-loop-i : goal.invariant-loop-i
invariant-loop-i g l = IsAdded g.S.TypeStore.has g.S.TypeStore.tree l.fn.store l.store
    (map value_offer (drop l.i (map g.S.TypeStore.tree l.members.items)))
    (map (offer_called g.S.TypeStore.tree) l.fn.offers.items ++ map value_offer
    (map g.S.TypeStore.tree l.members.items)) l.offers.items
