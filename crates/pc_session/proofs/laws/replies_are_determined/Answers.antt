use Rattle.pc_session.proofs.Determined.{determined}
use Rattle.pc_session.proofs.laws.replies_are_determined.Goals as goal

pub returns : goal.returns
returns g c = λ checker. determined (g.C.Checker.answers checker)
