use Rattle.pc_layout.proofs.OneLayout.{one_layout}
use Rattle.pc_layout.proofs.laws.one_layout.Goals as goal

pub returns : goal.returns
returns c = one_layout
