use Rattle.pc_module_rules.proofs.StandingFlows.{flows_found}
use Rattle.pc_module_rules.proofs.flow_laws.dynamic_flows_are_found.Goals as goal

pub returns : goal.returns
returns c = flows_found
