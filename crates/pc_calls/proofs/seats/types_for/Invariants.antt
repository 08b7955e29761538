use Rattle.std.proofs.Common.{◌≡◌, ◌++◌, map, drop, flat_map}
use Rattle.std.specs.Prelude.{All}
use Rattle.pc_rules.specs.Calls.{CallOffer}
use Rattle.pc_calls.specs.JudgedCalls.{offer_called, types_at}
use Rattle.pc_calls.proofs.seats.types_for.Given as goal

abbrev pub invariant-loop-i : goal.invariant-loop-i
invariant-loop-i g l = All (g.S.TypeStore.has l.store) l.types.items
    × (map g.S.TypeStore.tree l.types.items ++ flat_map (types_at l.argument)
    (flat_map (λ (o : CallOffer). o.calls) (map (offer_called g.S.TypeStore.tree) (drop l.i l.offers)))
    ≡ flat_map (types_at l.argument) (flat_map (λ (o : CallOffer). o.calls)
    (map (offer_called g.S.TypeStore.tree) l.offers)))
