use Rattle.pc_checked_session.proofs.Published.{diagnostics_are}
use Rattle.pc_checked_session.proofs.laws.diagnostics_are_rows.Goals as goal

pub returns : goal.returns
returns c = diagnostics_are
