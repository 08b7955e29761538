use Rattle.pc_module_rules.proofs.StandingFlows.{flows_computed, flows_unique}
use Rattle.pc_module_rules.proofs.flow_laws.dynamic_flows_stand_under_labels.Goals as goal

pub returns : goal.returns
returns c = record {
  computed = flows_computed;
  unique = flows_unique;
}
