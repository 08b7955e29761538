use Rattle.pc_flow.proofs.Lengths.{kept}
use Rattle.pc_flow.proofs.laws.joins_keep_locals.Goals as goal

pub returns : goal.returns
returns c = kept
