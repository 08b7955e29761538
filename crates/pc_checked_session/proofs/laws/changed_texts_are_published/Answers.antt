use Rattle.pc_checked_session.proofs.Published.{changed}
use Rattle.pc_checked_session.proofs.laws.changed_texts_are_published.Goals as goal

pub returns : goal.returns
returns c = changed
