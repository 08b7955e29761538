use Rattle.pc_detail_rules.proofs.Misfits.{misfits_exact}
use Rattle.pc_detail_rules.proofs.laws.misfits_are_exact.Goals as goal

pub returns : goal.returns
returns c = misfits_exact
