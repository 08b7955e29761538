use Rattle.pc_detail_rules.proofs.KnownAlike.{read_off}
use Rattle.pc_detail_rules.proofs.laws.details_are_read_off_notes.Goals as goal

pub returns : goal.returns
returns c = read_off
