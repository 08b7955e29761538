use Rattle.pc_detail_rules.proofs.Lacking.{lacking_exact}
use Rattle.pc_detail_rules.proofs.laws.lacking_is_exact.Goals as goal

pub returns : goal.returns
returns c = lacking_exact
