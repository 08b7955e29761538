use Rattle.pc_checked_session.proofs.Determined.{replies_determined}
use Rattle.pc_checked_session.proofs.laws.replies_are_determined.Goals as goal

pub returns : goal.returns
returns c = replies_determined
