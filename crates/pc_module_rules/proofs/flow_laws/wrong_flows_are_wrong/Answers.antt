use Rattle.pc_module_rules.proofs.StandingFlows.{wrong_wrong, wrong_well_formed}
use Rattle.pc_module_rules.proofs.flow_laws.wrong_flows_are_wrong.Goals as goal

pub returns : goal.returns
returns c = record {
  flows = wrong_wrong;
  types = wrong_well_formed;
}
