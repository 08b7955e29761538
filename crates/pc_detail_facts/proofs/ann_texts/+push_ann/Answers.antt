use Rattle.std.proofs.Common.{◌∙◌, ◌++◌, ap, append-nil, codes, refl, subst, sym}
use Rattle.pc_tree.specs.Tree.{name_of}
use Rattle.pc_annotations.proofs.Forms.{applied_is, union_is}
use Rattle.pc_annotations.specs.Listed.{anns_of_list}
use Rattle.pc_detail_texts.specs.Shortened.{KeepsText}
use Rattle.pc_detail_rules.specs.Written.{ann_text, anns_text}
use Rattle.pc_detail_facts.proofs.AnnTexts.{anns_ended, anns_grown, not_first}
use Rattle.pc_detail_facts.proofs.ann_texts.+push_ann.Goals as goal

pub push_anns-loop-ann-init : goal.push_anns-loop-ann-init
push_anns-loop-ann-init t c = record {
  first = refl;
  kept = λ whole h. subst (λ l. KeepsText c.args.text.now l) (sym (append-nil whole)) h;
}

pub push_anns-loop-ann-preserved : goal.push_anns-loop-ann-preserved
push_anns-loop-ann-preserved t c = record {
  first = not_first c.args.separator.now c.args.anns.now c.loop-ann.ann-index c.ann-item.result c.loop-ann-test.true
      c.ann-item.is;
  kept = λ whole h. anns_grown c.args.separator.now _ whole c.args.anns.now c.loop-ann.ann-index c.ann-item.result
      c.loop-ann.is_first c.loop-ann-test.true c.ann-item.is c.loop-ann.invariant.first
      (c.push_ann.ensures _ (c.push_gap.ensures _ (c.loop-ann.invariant.kept whole h)));
}

pub push_anns-returns : goal.push_anns-returns
push_anns-returns t c = λ whole h. anns_ended c.args.separator.now _ whole c.args.anns.now c.loop-ann.ann-index
    c.loop-ann-test.false (c.loop-ann.invariant.kept whole h)

pub push_ann-returns-in-Apply : goal.push_ann-returns-in-Apply
push_ann-returns-in-Apply t c = λ whole h. subst (λ l. KeepsText c.push_applied.new.text (whole ++ l))
    (ap (λ l. (name_of c.in-Apply.head).text ++ (codes "[" ++ (anns_text (codes ", ") (anns_of_list l) ++ codes "]")))
    c.deref.ensures.value
    ∙ ap ann_text (sym (applied_is c.args.ann.now c.in-Apply.place c.in-Apply.head c.in-Apply.arguments c.in-Apply.is)))
    (c.push_applied.ensures whole h)

pub push_ann-returns-in-Union : goal.push_ann-returns-in-Union
push_ann-returns-in-Union t c = λ whole h. subst (λ l. KeepsText c.push_anns.new.text (whole ++ l))
    (ap (λ l. anns_text (codes " | ") (anns_of_list l)) c.deref-in-Union.ensures.value
    ∙ ap ann_text (sym (union_is c.args.ann.now c.in-Union.field-0 c.in-Union.parts c.in-Union.is)))
    (c.push_anns.ensures whole h)
