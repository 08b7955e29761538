use Rattle.pc_types.proofs.JoinReduced.{join_well_formed}
use Rattle.pc_types.proofs.laws.joins_are_well_formed.Goals as goal

pub returns : goal.returns
returns c = join_well_formed
