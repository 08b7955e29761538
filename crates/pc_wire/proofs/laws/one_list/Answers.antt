use Rattle.pc_wire.proofs.OneFrame.{one_list_of}
use Rattle.pc_wire.proofs.laws.one_list.Goals as goal

pub returns : goal.returns
returns c = one_list_of
