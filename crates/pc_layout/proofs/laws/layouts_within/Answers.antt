use Rattle.pc_layout.proofs.WithinText.{layout_within}
use Rattle.pc_layout.proofs.laws.layouts_within.Goals as goal

pub returns : goal.returns
returns c = layout_within
