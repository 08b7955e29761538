use Rattle.std.proofs.Common.{◌∙◌, Some, None, ap, sym}
use Rattle.std.specs.Option.{option_and_then, option_map}
use Rattle.pc_tree.specs.Tree.{Ann}
use Rattle.pc_annotations.proofs.Forms.{union_is}
use Rattle.pc_annotations.specs.Bases.{bases_of}
use Rattle.pc_annotations.specs.Listed.{anns_of_list}
use Rattle.pc_detail_texts.specs.Mapped.{map_detail}
use Rattle.pc_detail_texts.specs.Shown.{clash_of_value}
use Rattle.pc_detail_rules.specs.Annotations.{clash_among, shown_readings, union_detail}
use Rattle.pc_detail_facts.specs.Held.{module_held, text_held}
use Rattle.pc_type_details.proofs.AnnotationFaults.{clash_shown}
use Rattle.pc_type_details.proofs.annotating.union_detail.Goals as goal

pub returns-in-Some : goal.returns-in-Some
returns-in-Some c =
    let f = c.args.facts.now in
    let m = module_held f in
    let v = c.in-Union.parts in
    clash_shown (text_held f) (option_and_then (clash_among (bases_of m)) (shown_readings m (anns_of_list v.items)))
    (Some (clash_of_value c.in-Some.clash)) (rw (c.in-Some.is, c.deref.ensures.value) at c.in_ok-clash.ensures)
    ∙ ap (λ (a : Ann). option_map (map_detail (text_held f)) (union_detail m a))
    (sym (union_is c.args.ann.now c.in-Union.field-0 v c.in-Union.is))

pub returns-in-None : goal.returns-in-None
returns-in-None c =
    let f = c.args.facts.now in
    let m = module_held f in
    let v = c.in-Union.parts in
    clash_shown (text_held f) (option_and_then (clash_among (bases_of m)) (shown_readings m (anns_of_list v.items)))
    None (rw (c.in-None.is, c.deref.ensures.value) at c.in_ok-clash.ensures)
    ∙ ap (λ (a : Ann). option_map (map_detail (text_held f)) (union_detail m a))
    (sym (union_is c.args.ann.now c.in-Union.field-0 v c.in-Union.is))
