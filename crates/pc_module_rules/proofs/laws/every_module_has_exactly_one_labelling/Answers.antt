use Rattle.pc_module_rules.proofs.LabelledModule.{every_module_has_a_labelling}
use Rattle.pc_module_rules.proofs.OneModule.{one_labelling}
use Rattle.pc_module_rules.proofs.laws.every_module_has_exactly_one_labelling.Goals as goal

pub returns : goal.returns
returns c = λ m. (every_module_has_a_labelling m, one_labelling m)
