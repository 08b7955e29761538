use Rattle.pc_detail_rules.proofs.NameMisfits.{name_exact}
use Rattle.pc_detail_rules.proofs.laws.name_misfits_are_exact.Goals as goal

pub returns : goal.returns
returns c = name_exact
