use Rattle.std.proofs.Common.{◌≡◌, ◌∙◌, ◌++◌, ◌∷◌, [], List, map, ap, subst, sym}
use Rattle.std.proofs.lemmas.List.{map-append}
use Rattle.std.specs.Prelude.{OnOk}
use Rattle.pc_tree.specs.Tree.{Ann, ann_of}
use Rattle.pc_annotations.proofs.Forms.{applied_is, union_is}
use Rattle.pc_annotations.specs.Listed.{anns_of_list}
use Rattle.pc_detail_rules.specs.Nodes.{anns_in, anns_in_all}
use Rattle.pc_detail_nodes.specs.NodesHeld.{ann_lent}
use Rattle.pc_detail_nodes.proofs.WalkedLists.{then_rest}
use Rattle.pc_detail_nodes.proofs.annotations_at.+anns.Goals as goal

pub add_parts-returns-in-Apply : goal.add_parts-returns-in-Apply
add_parts-returns-in-Apply t c =
    let a = ann_of c.args.annotation.now in
    let old = c.args.anns.now.items in
    let pushed : map ann_lent c.push.new.self.items ≡ map ann_lent old ++ a ∷ [] =
    ap (map ann_lent) c.in_ok-push.ensures.items ∙ map-append ann_lent old _ in
    let same : anns_in a ≡ a ∷ anns_in_all (anns_of_list c.in-Apply.parts.items) =
    ap anns_in (applied_is c.args.annotation.now c.in-Apply.place c.in-Apply.head c.in-Apply.parts c.in-Apply.is)
    ∙ ap (λ (x : Ann). x ∷ anns_in_all (anns_of_list c.in-Apply.parts.items))
    (sym (applied_is c.args.annotation.now c.in-Apply.place c.in-Apply.head c.in-Apply.parts c.in-Apply.is)) in
    subst (λ (l : List Ann). OnOk c.add_each.result (map ann_lent c.add_each.new.anns.items ≡ l))
    (then_rest (map ann_lent old) (map ann_lent c.push.new.self.items) (a ∷ [])
    (anns_in_all (anns_of_list c.in-Apply.parts.items)) (anns_in a) same pushed)
    (rw c.deref.ensures.value at c.add_each.ensures)

pub add_parts-returns-in-Union : goal.add_parts-returns-in-Union
add_parts-returns-in-Union t c =
    let a = ann_of c.args.annotation.now in
    let old = c.args.anns.now.items in
    let pushed : map ann_lent c.push.new.self.items ≡ map ann_lent old ++ a ∷ [] =
    ap (map ann_lent) c.in_ok-push.ensures.items ∙ map-append ann_lent old _ in
    let same : anns_in a ≡ a ∷ anns_in_all (anns_of_list c.in-Union.parts.items) =
    ap anns_in (union_is c.args.annotation.now c.in-Union.field-0 c.in-Union.parts c.in-Union.is)
    ∙ ap (λ (x : Ann). x ∷ anns_in_all (anns_of_list c.in-Union.parts.items))
    (sym (union_is c.args.annotation.now c.in-Union.field-0 c.in-Union.parts c.in-Union.is)) in
    subst (λ (l : List Ann). OnOk c.add_each-in-Union.result (map ann_lent c.add_each-in-Union.new.anns.items ≡ l))
    (then_rest (map ann_lent old) (map ann_lent c.push.new.self.items) (a ∷ [])
    (anns_in_all (anns_of_list c.in-Union.parts.items)) (anns_in a) same pushed)
    (rw c.deref-in-Union.ensures.value at c.add_each-in-Union.ensures)
