use Rattle.std.proofs.Common.{◌∙◌, ap, sym}
use Rattle.std.specs.Option.{option_map}
use Rattle.pc_tree.specs.Tree.{Ann}
use Rattle.pc_annotations.proofs.Forms.{applied_is}
use Rattle.pc_detail_texts.specs.Mapped.{map_annotation}
use Rattle.pc_detail_rules.specs.Annotations.{annotation_fault}
use Rattle.pc_detail_facts.specs.Held.{module_held, text_held}
use Rattle.pc_detail_facts.proofs.Results.{if_ok}
use Rattle.pc_type_details.proofs.annotating.fault_of_annotation.Goals as goal

pub returns-in-Apply : goal.returns-in-Apply
returns-in-Apply c =
    let f = c.args.facts.now in
    if_ok c.fault_of_types.result (λ o e. e
    ∙ ap (λ (a : Ann). option_map (map_annotation (text_held f)) (annotation_fault (module_held f) a))
    (sym (applied_is c.args.ann.now c.in-Apply.place c.in-Apply.head c.in-Apply.types c.in-Apply.is)))
    (rw c.deref.ensures.value at c.fault_of_types.ensures)
