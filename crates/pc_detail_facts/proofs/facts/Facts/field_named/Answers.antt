use Rattle.pc_detail_facts.proofs.CalledParameters.{field_given}
use Rattle.pc_detail_facts.proofs.facts.Facts.field_named.Goals as goal

pub returns-clause-given : goal.returns-clause-given
returns-clause-given c = field_given c.args.self.now.classes.now c.requires.given c.field.result c.field.ensures.listed
