use Rattle.pc_checked_session.proofs.Published.{opened}
use Rattle.pc_checked_session.proofs.laws.opened_texts_are_published.Goals as goal

pub returns : goal.returns
returns c = opened
