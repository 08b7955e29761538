use Rattle.pc_class.proofs.FoundOverrides.{overrides_found}
use Rattle.pc_class.proofs.laws.overrides_are_found.Goals as goal

pub returns : goal.returns
returns c = overrides_found
