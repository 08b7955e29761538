use Rattle.pc_module_rules.proofs.LabelledModule.{every_module_has_a_labelling}
use Rattle.pc_module_rules.proofs.laws.every_module_has_a_labelling.Goals as goal

pub returns : goal.returns
returns c = every_module_has_a_labelling
