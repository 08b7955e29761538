use Rattle.std.proofs.Common.{◌≡◌, map, drop}
use Rattle.pc_types.specs.Store.{KeepsTypes}
use Rattle.pc_flow.specs.Environment.{join_onto, join_all}
use Rattle.pc_rules.specs.Calls.{CallOffer}
use Rattle.pc_calls.specs.JudgedCalls.{offer_called}
use Rattle.pc_calls.proofs.calling.join_given.Given as goal

abbrev pub invariant-loop-i : goal.invariant-loop-i
invariant-loop-i g l = KeepsTypes g.S.TypeStore.has l.fn.store l.store × g.S.TypeStore.has l.store l.joined
    × (join_onto l.parents (g.S.TypeStore.tree l.joined) (map (λ (o : CallOffer). o.gives)
    (map (offer_called g.S.TypeStore.tree) (drop l.i l.offers))) ≡ join_all l.parents
    (map (λ (o : CallOffer). o.gives) (map (offer_called g.S.TypeStore.tree) l.offers)))
