use Rattle.pc_module_rules.proofs.StandingFlows.{flows_dynamic, flows_well_formed}
use Rattle.pc_module_rules.proofs.flow_laws.dynamic_flows_are_dynamic.Goals as goal

pub returns : goal.returns
returns c = record {
  flows = flows_dynamic;
  types = flows_well_formed;
}
