use Rattle.pc_message_loop.proofs.Written.{are_written}
use Rattle.pc_checked_session.specs.Found.{IsFoundIn}
use Rattle.pc_checked_session.proofs.laws.sessions_are_written.Goals as goal

pub returns : goal.returns
returns g c = are_written IsFoundIn g.R.Read.remaining g.W.Write.contents
