use Rattle.pc_module_rules.proofs.StandingFlows.{wrong_found}
use Rattle.pc_module_rules.proofs.flow_laws.wrong_flows_are_found.Goals as goal

pub returns : goal.returns
returns c = wrong_found
