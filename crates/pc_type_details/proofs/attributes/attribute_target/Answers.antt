use Rattle.std.proofs.Common.{Some, ap}
use Rattle.pc_detail_texts.specs.Details.{Detail}
use Rattle.pc_detail_texts.specs.Sentences.{Words}
use Rattle.pc_type_details.proofs.attributes.attribute_target.Goals as goal

pub returns : goal.returns
returns c = rw c.in-Attribute.is (ap (λ (d : Detail Words). Some d)
    (rw (c.deref.ensures, c.as_str.ensures.value) at c.in_ok-detail.ensures))
