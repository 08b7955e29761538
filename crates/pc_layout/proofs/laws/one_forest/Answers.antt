use Rattle.pc_layout.proofs.OneLayout.{one_forest}
use Rattle.pc_layout.proofs.laws.one_forest.Goals as goal

pub returns : goal.returns
returns c = λ s t h g e. one_forest 0 0 s t h g e
