use Rattle.pc_annotations.proofs.Readings.{read_ann_well_formed, read_option_well_formed}
use Rattle.pc_annotations.proofs.laws.annotations_are_well_formed.Goals as goal

pub returns : goal.returns
returns c = record { annotation = read_ann_well_formed; optional = read_option_well_formed }
