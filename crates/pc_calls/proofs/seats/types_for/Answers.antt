use Rattle.std.proofs.Common.{arith}
use Rattle.pc_calls.proofs.SeatTypes.{types_more, types_all, types_held}
use Rattle.pc_calls.proofs.seats.types_for.Goals as goal

pub loop-i-preserved : goal.loop-i-preserved
loop-i-preserved g c =
    rw c.in_ok-push_type.ensures (
      types_held (g.S.TypeStore.has c.args.store.now) c.loop-i.types.items c.in_ok-ty.ty c.loop-i.invariant.0
          c.in_ok-ty.ensures.held,
      types_more g.S.TypeStore.tree c.args.argument _ c.args.offers.now c.loop-i.i c.index-offers-i.result (omega arith)
          c.index-offers-i.is c.loop-i.types.items c.in_ok-ty.ty c.in_ok-ty.ensures.value c.loop-i.invariant.1,
    )

pub returns-clause-value : goal.returns-clause-value
returns-clause-value g c = types_all g.S.TypeStore.tree c.args.argument _ c.args.offers.now c.loop-i.i (omega arith)
    c.loop-i.types.items c.loop-i.invariant.1
