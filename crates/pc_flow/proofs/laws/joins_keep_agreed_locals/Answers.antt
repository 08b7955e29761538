use Rattle.pc_flow.proofs.Meeting.{joins_keep_agreed}
use Rattle.pc_flow.proofs.laws.joins_keep_agreed_locals.Goals as goal

pub returns : goal.returns
returns c = joins_keep_agreed
