use Rattle.pc_message_loop.proofs.Written.{are_written}
use Rattle.pc_message_loop.proofs.laws.sessions_are_written.Goals as goal

pub returns : goal.returns
returns g c = λ checker. are_written (g.C.Checker.answers checker) g.R.Read.remaining g.W.Write.contents
