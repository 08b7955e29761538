use Rattle.pc_detail_rules.proofs.CallMisfits.{method_exact}
use Rattle.pc_detail_rules.proofs.laws.method_misfits_are_exact.Goals as goal

pub returns : goal.returns
returns c = method_exact
