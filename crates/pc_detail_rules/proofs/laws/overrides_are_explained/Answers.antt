use Rattle.pc_detail_rules.proofs.OverrideFaults.{overrides_explained}
use Rattle.pc_detail_rules.proofs.laws.overrides_are_explained.Goals as goal

pub returns : goal.returns
returns c = overrides_explained
