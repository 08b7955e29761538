use Rattle.pc_source.proofs.SourceRefusals.{within}
use Rattle.pc_source.proofs.laws.refusals_within.Goals as goal

pub returns : goal.returns
returns c = within
