use Rattle.pc_module_rules.proofs.Agreement.{agrees}
use Rattle.pc_module_rules.proofs.laws.labels_agree_with_scopes.Goals as goal

pub returns : goal.returns
returns c = agrees
