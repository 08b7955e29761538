use Rattle.pc_class.proofs.FoundClashes.{clashes_stop, just_their_lists}
use Rattle.pc_class.proofs.laws.class_findings_are_exact.Goals as goal

pub returns : goal.returns
returns c = record { clashes = clashes_stop; all = just_their_lists }
