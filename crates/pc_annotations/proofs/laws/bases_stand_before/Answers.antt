use Rattle.pc_annotations.proofs.Earlier.{smaller}
use Rattle.pc_annotations.proofs.laws.bases_stand_before.Goals as goal

pub returns : goal.returns
returns c = smaller
