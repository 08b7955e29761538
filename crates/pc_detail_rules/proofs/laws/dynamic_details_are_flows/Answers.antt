use Rattle.pc_detail_rules.proofs.FlowDetails.{details_are_flows, not_static}
use Rattle.pc_detail_rules.proofs.laws.dynamic_details_are_flows.Goals as goal

pub returns : goal.returns
returns c = record {
  flows = details_are_flows;
  types = not_static;
}
