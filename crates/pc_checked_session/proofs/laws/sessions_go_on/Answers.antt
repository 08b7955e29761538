use Rattle.pc_session.proofs.InStep.{go_on}
use Rattle.pc_checked_session.specs.Found.{IsFoundIn}
use Rattle.pc_checked_session.proofs.laws.sessions_go_on.Goals as goal

pub returns : goal.returns
returns c = go_on IsFoundIn
