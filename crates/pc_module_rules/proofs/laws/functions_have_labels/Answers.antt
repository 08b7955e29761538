use Rattle.pc_module_rules.proofs.LabelledFunctions.{function_labelled, members_labelled}
use Rattle.pc_module_rules.proofs.laws.functions_have_labels.Goals as goal

pub returns : goal.returns
returns c = record { function = function_labelled; members = members_labelled }
