use Rattle.pc_detail_rules.proofs.CallMisfits.{value_exact}
use Rattle.pc_detail_rules.proofs.laws.value_misfits_are_exact.Goals as goal

pub returns : goal.returns
returns c = value_exact
