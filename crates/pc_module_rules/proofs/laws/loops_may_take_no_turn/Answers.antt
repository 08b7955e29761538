use Rattle.pc_module_rules.proofs.UnassignedBehind.{unassigned_behind}
use Rattle.pc_module_rules.proofs.laws.loops_may_take_no_turn.Goals as goal

pub returns : goal.returns
returns c = unassigned_behind
