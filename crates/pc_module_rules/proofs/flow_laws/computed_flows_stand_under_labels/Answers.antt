use Rattle.pc_module_rules.proofs.StandingFlows.{all_computed}
use Rattle.pc_module_rules.proofs.flow_laws.computed_flows_stand_under_labels.Goals as goal

pub returns : goal.returns
returns c = all_computed
