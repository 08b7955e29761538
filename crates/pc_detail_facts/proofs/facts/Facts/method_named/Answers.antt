use Rattle.pc_detail_facts.proofs.CalledParameters.{method_given}
use Rattle.pc_detail_facts.proofs.facts.Facts.method_named.Goals as goal

pub returns-clause-given : goal.returns-clause-given
returns-clause-given c =
    method_given c.args.self.now.classes.now c.requires.given c.method.result c.method.ensures.listed
