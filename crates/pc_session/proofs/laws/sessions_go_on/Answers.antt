use Rattle.pc_session.proofs.InStep.{go_on}
use Rattle.pc_session.proofs.laws.sessions_go_on.Goals as goal

pub returns : goal.returns
returns g c = λ checker. go_on (g.C.Checker.answers checker)
