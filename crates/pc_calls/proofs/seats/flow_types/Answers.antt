use Rattle.std.proofs.Common.{◌∙◌, map, sym}
use Rattle.pc_calls.specs.JudgedCalls.{offer_called}
use Rattle.pc_calls.proofs.SeatTypes.{seat_into}
use Rattle.pc_calls.proofs.seats.flow_types.Goals as goal

pub returns-clause-value : goal.returns-clause-value
returns-clause-value g c = c.in_ok-types.ensures.value
    ∙ sym (seat_into c.args.argument (map (offer_called g.S.TypeStore.tree) c.args.offers.now)
    (sym (c.is_in_error.ensures g.S.TypeStore.tree) ∙ c.if-is_in_error.false))
