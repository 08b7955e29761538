use Rattle.pc_module_rules.proofs.Scopes.{of_scopes}
use Rattle.pc_module_rules.proofs.laws.findings_of_scopes.Goals as goal

pub returns : goal.returns
returns c = of_scopes
