use Rattle.pc_rules.proofs.ComputedLawful.{labels_are_lawful}
use Rattle.pc_rules.proofs.laws.labels_are_lawful.Goals as goal

pub returns : goal.returns
returns c = labels_are_lawful
