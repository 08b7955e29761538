use Rattle.pc_detail_rules.proofs.Explained.Whole.{every_explained}
use Rattle.pc_detail_rules.proofs.laws.every_finding_is_explained.Goals as goal

pub returns : goal.returns
returns c = every_explained
