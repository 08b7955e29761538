use Rattle.pc_sound.proofs.Values.ReadTypes.{read_ann_without, module_fields_without}
use Rattle.pc_sound.proofs.laws.annotations_have_no_never.Goals as goal

pub returns : goal.returns
returns c = record { annotation = read_ann_without; fields = module_fields_without }
