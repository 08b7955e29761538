use Rattle.pc_module_rules.proofs.StandingFlows.{first_flows_noted}
use Rattle.pc_module_rules.proofs.flow_laws.first_flows_are_noted.Goals as goal

pub returns : goal.returns
returns c = first_flows_noted
