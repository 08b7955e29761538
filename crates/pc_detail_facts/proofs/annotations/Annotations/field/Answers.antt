use Rattle.pc_detail_rules.specs.Written.{annotated_classes, field_annotation}
use Rattle.pc_detail_facts.proofs.annotations.Annotations.field.Goals as goal

pub get-requires : goal.get-requires
get-requires c = (annotated_classes c.requires.0, c.requires.1.fields)

pub returns : goal.returns
unfolding field_annotation
returns c = λ m h. c.get.ensures (annotated_classes m) h.fields
