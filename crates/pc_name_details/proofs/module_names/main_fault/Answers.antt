use Rattle.std.proofs.Common.{◌∙◌, ◌+◌, Bool, List, Option, Some, ap, arith, cond, drop, map, sym}
use Rattle.std.proofs.lemmas.List.{drop_all}
use Rattle.std.specs.Prelude.{bytes_eq, codes, find}
use Rattle.pc_tree.specs.declared.tree.Item.{Item as RustItem}
use Rattle.pc_tree.specs.Stopping.{name_of_item}
use Rattle.pc_tree.specs.Tree.{Item, item_of}
use Rattle.pc_detail_texts.specs.Details as detail
use Rattle.pc_detail_rules.specs.Names.{no_main_of}
use Rattle.pc_detail_facts.proofs.Held.{drop_next}
use Rattle.pc_name_details.proofs.module_names.main_fault.Goals as goal

pub returns-then-is_main : goal.returns-then-is_main
returns-then-is_main c =
    let xs = c.deref-item-items.result.now in
    let i = c.loop-item.item-index in
    let x = c.item-item.result in
    let rest = find (λ (y : Item). bytes_eq (codes "main") (name_of_item y).text) (map item_of (drop (i + 1) xs)) in
    ap detail.main (c.no_main.ensures ∙ ap no_main_of
    (sym (ap (λ (b : Bool). cond b (Some (item_of x)) rest) (sym c.is_main.ensures ∙ c.if-is_main.true))
    ∙ sym (ap (λ (l : List RustItem). find (λ (y : Item). bytes_eq (codes "main") (name_of_item y).text) (map item_of l))
    (drop_next xs i x c.loop-item-test.true c.item-item.is)) ∙ c.loop-item.invariant
    ∙ ap (λ (l : List RustItem). find (λ (y : Item). bytes_eq (codes "main") (name_of_item y).text) (map item_of l))
    c.deref-item-items.ensures.value))

pub loop-item-preserved : goal.loop-item-preserved
loop-item-preserved c =
    let xs = c.deref-item-items.result.now in
    let i = c.loop-item.item-index in
    let x = c.item-item.result in
    let rest = find (λ (y : Item). bytes_eq (codes "main") (name_of_item y).text) (map item_of (drop (i + 1) xs)) in
    sym (ap (λ (b : Bool). cond b (Some (item_of x)) rest) (sym c.is_main.ensures ∙ c.if-is_main.false))
    ∙ sym (ap (λ (l : List RustItem). find (λ (y : Item). bytes_eq (codes "main") (name_of_item y).text) (map item_of l))
    (drop_next xs i x c.loop-item-test.true c.item-item.is)) ∙ c.loop-item.invariant

pub returns : goal.returns
returns c = ap (λ (o : Option Item). detail.main (no_main_of o))
    (sym (ap (λ (l : List RustItem). find (λ (y : Item). bytes_eq (codes "main") (name_of_item y).text) (map item_of l))
    (drop_all c.loop-item.item-index c.deref-item-items.result.now (omega arith))) ∙ c.loop-item.invariant
    ∙ ap (λ (l : List RustItem). find (λ (y : Item). bytes_eq (codes "main") (name_of_item y).text) (map item_of l))
    c.deref-item-items.ensures.value)
