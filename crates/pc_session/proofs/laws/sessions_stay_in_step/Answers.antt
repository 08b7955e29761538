use Rattle.pc_session.proofs.InStep.{stay_in_step}
use Rattle.pc_session.proofs.laws.sessions_stay_in_step.Goals as goal

pub returns : goal.returns
returns g c = λ checker. stay_in_step (g.C.Checker.answers checker)
