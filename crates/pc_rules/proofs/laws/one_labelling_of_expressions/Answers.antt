use Rattle.pc_rules.proofs.One.{one_labelling}
use Rattle.pc_rules.proofs.laws.one_labelling_of_expressions.Goals as goal

pub returns : goal.returns
returns c = one_labelling
