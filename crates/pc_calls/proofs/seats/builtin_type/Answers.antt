use Rattle.std.proofs.Common.{sym}
use Rattle.pc_calls.proofs.SeatTypes.{builtin_none, builtin_past, builtin_there}
use Rattle.pc_calls.proofs.seats.builtin_type.Goals as goal

pub returns-in-None-clause-value : goal.returns-in-None-clause-value
returns-in-None-clause-value g c returns = builtin_none g.S.TypeStore.tree c.args.argument c.args.types.now
    (sym c.in-None.ensures) returns

pub returns-then-number-types-clause-value : goal.returns-then-number-types-clause-value
returns-then-number-types-clause-value g c returns = builtin_past g.S.TypeStore.tree c.args.argument c.args.types.now
    c.in-Some.number (sym c.in-Some.ensures) c.if-number-types.true returns

pub returns-in_ok-ty-in-Some-clause-value : goal.returns-in_ok-ty-in-Some-clause-value
returns-in_ok-ty-in-Some-clause-value g c returns = builtin_there g.S.TypeStore.tree c.args.argument c.args.types.now
    c.in-Some.number c.index-types-number.result _ (sym c.in-Some.ensures) c.if-number-types.false
    c.index-types-number.is c.in_ok-ty-in-Some.ensures.1 returns
