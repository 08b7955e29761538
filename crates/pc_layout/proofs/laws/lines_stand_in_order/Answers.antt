use Rattle.pc_layout.proofs.TextLines.{stand_in_order}
use Rattle.pc_layout.proofs.laws.lines_stand_in_order.Goals as goal

pub returns : goal.returns
returns c = stand_in_order
