use Rattle.pc_module_rules.proofs.ReturnedValues.{returned_flows}
use Rattle.pc_module_rules.proofs.laws.returned_values_flow.Goals as goal

pub returns : goal.returns
returns c = returned_flows
