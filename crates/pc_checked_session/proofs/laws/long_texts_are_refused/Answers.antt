use Rattle.pc_checked_session.proofs.Published.{long_texts}
use Rattle.pc_checked_session.proofs.laws.long_texts_are_refused.Goals as goal

pub returns : goal.returns
returns c = long_texts
