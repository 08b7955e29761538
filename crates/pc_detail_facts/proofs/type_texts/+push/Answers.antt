use Rattle.std.proofs.Common.{◌≡◌, ◌∙◌, ◌+◌, ◌++◌, ap, arith, codes, subst, sym}
use Rattle.pc_types.specs.Boxed.{tree_of, trees_in}
use Rattle.pc_types.specs.Shape.{nodes, nodes_of}
use Rattle.pc_types.proofs.Tuples.{tuple_is}
use Rattle.pc_annotations.specs.Text.{further_parts_text, parts_text, type_text}
use Rattle.pc_detail_texts.specs.Shortened.{KeepsText}
use Rattle.pc_detail_facts.proofs.TypeTexts.{further_grown, grown_2, grown_3, grown_5, part_within}
use Rattle.pc_detail_facts.proofs.type_texts.+push.Goals as goal

pub push_dict-returns : goal.push_dict-returns
push_dict-returns t c = λ m whole d h. grown_5 _ whole (codes "dict[") (type_text m (tree_of c.args.key.now)) (codes ", ")
    (type_text m (tree_of c.args.value.now)) (codes "]") (c.push-3.ensures _ (c.push_type-2.ensures m _ d
    (c.push-2.ensures _ (c.push_type.ensures m _ d (c.push.ensures whole h)))))

pub push_list-returns : goal.push_list-returns
push_list-returns t c = λ m whole d h. grown_3 _ whole (codes "list[") (type_text m (tree_of c.args.item.now)) (codes "]")
    (c.push-2.ensures _ (c.push_type.ensures m _ d (c.push.ensures whole h)))

pub push_further-push_type-requires : goal.push_further-push_type-requires
push_further-push_type-requires t c =
    let within = part_within c.args.parts.now c.loop-part.part-index c.part-item.result c.loop-part-test.true c.part-item.is in
    omega (arith, within)

pub push_further-loop-part-preserved : goal.push_further-loop-part-preserved
push_further-loop-part-preserved t c = λ m whole d h. further_grown m _ whole c.args.parts.now c.loop-part.part-index
    c.part-item.result c.loop-part-test.true c.part-item.is
    (c.push_type.ensures m _ d (c.push.ensures _ (c.loop-part.invariant m whole d h)))

pub push_type-push_tuple-requires : goal.push_type-push_tuple-requires
push_type-push_tuple-requires t c =
    let n : nodes (tree_of c.args.ty.now) ≡ 1 + nodes_of (trees_in c.in-Tuple.parts.items) =
    ap nodes (tuple_is _ _ c.in-Tuple.is) in
    let e : nodes_of (trees_in c.deref-in-Tuple.result.now) ≡ nodes_of (trees_in c.in-Tuple.parts.items) =
    ap (λ l. nodes_of (trees_in l)) c.deref-in-Tuple.ensures.value in
    omega (arith, n, e)

pub push_tuple-returns : goal.push_tuple-returns
push_tuple-returns t c = λ m whole d h. grown_3 _ whole (codes "tuple[") (parts_text m (trees_in c.args.parts.now)) (codes "]")
    (c.push-2.ensures _ (c.push_parts.ensures m _ d (c.push.ensures whole h)))

pub push_type-returns-in-Tuple : goal.push_type-returns-in-Tuple
push_type-returns-in-Tuple t c = λ m whole d h. subst (λ l. KeepsText c.push_tuple.new.text (whole ++ l))
    (ap (λ l. codes "tuple[" ++ (parts_text m (trees_in l) ++ codes "]")) c.deref-in-Tuple.ensures.value
    ∙ ap (type_text m) (sym (tuple_is _ _ c.in-Tuple.is))) (c.push_tuple.ensures m whole d h)

pub push_union-returns : goal.push_union-returns
push_union-returns t c = λ m whole d h. grown_3 _ whole (type_text m (tree_of c.args.first.now)) (codes " | ")
    (type_text m (tree_of c.args.others.now)) (c.push_type-2.ensures m _ d (c.push.ensures _ (c.push_type.ensures m whole d h)))

pub push_parts-returns-in-Some : goal.push_parts-returns-in-Some
push_parts-returns-in-Some t c = λ m whole d h.
    subst (λ l. KeepsText c.push_further.new.text (whole ++ parts_text m (trees_in l))) (sym c.in-Some.ensures.cases.0)
    (grown_2 _ whole (type_text m (tree_of c.in-Some.first.now)) (further_parts_text m (trees_in c.in-Some.others.now))
    (c.push_further.ensures m _ d (c.push_type.ensures m whole d h)))
