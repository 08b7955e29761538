use Rattle.std.proofs.Common.{sym}
use Rattle.pc_class.specs.Listings.{listed_in}
use Rattle.pc_calls.proofs.SeatTypes.{param_none, param_past, param_there}
use Rattle.pc_calls.proofs.seats.listed_type.Goals as goal

pub returns-in-None-clause-value : goal.returns-in-None-clause-value
returns-in-None-clause-value g c returns = param_none g.S.TypeStore.tree c.args.argument (listed_in c.args.params.now)
    (sym c.in-None.ensures) returns

pub returns-in-None-at-clause-value : goal.returns-in-None-at-clause-value
returns-in-None-at-clause-value g c returns = param_past g.S.TypeStore.tree c.args.argument
    (listed_in c.args.params.now) c.in-Some.place (sym c.in-Some.ensures) (sym c.in-None-at.ensures) returns

pub returns-in_ok-ty-in-Some-at-clause-value : goal.returns-in_ok-ty-in-Some-at-clause-value
returns-in_ok-ty-in-Some-at-clause-value g c returns = param_there g.S.TypeStore.tree c.args.argument
    (listed_in c.args.params.now) c.in-Some.place c.in-Some-at.param.now _ (sym c.in-Some.ensures)
    (sym c.in-Some-at.ensures) c.in_ok-ty-in-Some-at.ensures.1 returns
