use Rattle.pc_module_rules.proofs.OneModule.{one_labelling}
use Rattle.pc_module_rules.proofs.laws.one_labelling.Goals as goal

pub returns : goal.returns
returns c = one_labelling
