use Rattle.pc_detail_rules.proofs.KnownAlike.{annotation_read_off}
use Rattle.pc_detail_rules.proofs.laws.annotations_are_read_off_notes.Goals as goal

pub returns : goal.returns
returns c = annotation_read_off
