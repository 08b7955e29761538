use Rattle.pc_session.proofs.InStep.{stay_in_step}
use Rattle.pc_checked_session.specs.Found.{IsFoundIn}
use Rattle.pc_checked_session.proofs.laws.sessions_stay_in_step.Goals as goal

pub returns : goal.returns
returns c = stay_in_step IsFoundIn
