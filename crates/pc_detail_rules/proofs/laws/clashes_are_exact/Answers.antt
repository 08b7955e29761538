use Rattle.pc_detail_rules.proofs.Clashes.{clashes_exact}
use Rattle.pc_detail_rules.proofs.laws.clashes_are_exact.Goals as goal

pub returns : goal.returns
returns c = clashes_exact
