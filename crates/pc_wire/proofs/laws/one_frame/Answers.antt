use Rattle.pc_wire.proofs.OneFrame.{one_frame_of}
use Rattle.pc_wire.proofs.laws.one_frame.Goals as goal

pub returns : goal.returns
returns c = one_frame_of
