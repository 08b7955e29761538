use Rattle.pc_flow.proofs.Conditions.{assignments_well_formed, joins_well_formed, conditions_well_formed}
use Rattle.pc_flow.proofs.Conditions.{heads_well_formed}
use Rattle.pc_flow.proofs.laws.environments_stay_well_formed.Goals as goal

pub returns : goal.returns
returns c = record {
  assignment = assignments_well_formed;
  join = joins_well_formed;
  condition = conditions_well_formed;
  loop_head = heads_well_formed;
}
