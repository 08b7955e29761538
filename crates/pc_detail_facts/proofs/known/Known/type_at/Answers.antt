use Rattle.std.proofs.Common.{Some}
use Rattle.pc_detail_facts.specs.Held.{IsGivenLent}
use Rattle.pc_detail_facts.proofs.Held.{given_lent}
use Rattle.pc_detail_facts.proofs.known.Known.type_at.Goals as goal

pub returns-in-Some-clause-given : goal.returns-in-Some-clause-given
returns-in-Some-clause-given c = given_lent IsGivenLent (Some c.in-Some.ty) _ c.in-Some.ensures.value
    (c.requires.types c.args.place)
