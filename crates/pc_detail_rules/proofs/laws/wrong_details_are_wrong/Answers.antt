use Rattle.pc_detail_rules.proofs.FlowDetails.{not_assignable}
use Rattle.pc_detail_rules.proofs.laws.wrong_details_are_wrong.Goals as goal

pub returns : goal.returns
returns c = not_assignable
