use Rattle.std.proofs.Common.{map, drop, flat_map}
use Rattle.pc_rules.specs.Calls.{method_offers}
use Rattle.pc_calls.specs.JudgedCalls.{given_with}
use Rattle.pc_rules.specs.Computed.Standing.{context_with}
use Rattle.pc_calls.proofs.CallsKept.{IsAdded}
use Rattle.pc_calls.proofs.methods.callee_of_method.Given as goal

abbrev pub invariant-loop-i : goal.invariant-loop-i
invariant-loop-i g l = IsAdded g.S.TypeStore.has g.S.TypeStore.tree l.fn.store l.store
    (flat_map (method_offers (context_with g.S.TypeStore.tree l.context) (given_with l.call.given.now) l.call.name.now)
    (map g.S.TypeStore.tree (drop l.i l.members.items))) (flat_map
    (method_offers (context_with g.S.TypeStore.tree l.context) (given_with l.call.given.now) l.call.name.now)
    (map g.S.TypeStore.tree l.members.items)) l.offers.items
