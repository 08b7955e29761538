use Rattle.pc_detail_rules.proofs.KnownAlike.{notes_tell}
use Rattle.pc_detail_rules.proofs.laws.notes_tell_what_is_known.Goals as goal

pub returns : goal.returns
returns c = notes_tell
