use Rattle.pc_detail_facts.specs.Held.{AreGivenLent}
use Rattle.pc_detail_facts.proofs.Held.{given_lent}
use Rattle.pc_detail_facts.proofs.known.Known.wrong_at.Goals as goal

pub returns-clause-given : goal.returns-clause-given
returns-clause-given c = given_lent AreGivenLent c.get.result _ c.get.ensures.value (c.requires.wrong c.args.place)
