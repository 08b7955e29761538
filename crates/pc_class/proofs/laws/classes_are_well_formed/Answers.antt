use Rattle.pc_class.proofs.WellFormed.{all_classes_well_formed}
use Rattle.pc_class.proofs.laws.classes_are_well_formed.Goals as goal

pub returns : goal.returns
returns c = all_classes_well_formed
