use Rattle.std.proofs.Common.{◌∙◌, ◌-◌, ◌^◌, ap, arith, sym, take}
use Rattle.pc_tree.specs.Tree.{ann_of, name_of}
use Rattle.pc_types.specs.Shape.{nodes, nodes_of, trees}
use Rattle.pc_annotations.specs.Annotations.{read_anns, reading}
use Rattle.pc_annotations.specs.Bases.{bases_of}
use Rattle.pc_annotations.specs.Listed.{anns_of_list}
use Rattle.pc_annotations.proofs.Forms.{applied_is, union_is}
use Rattle.pc_detail_rules.specs.Annotations.{told_nodes}
use Rattle.pc_detail_facts.specs.Held.{module_held}
use Rattle.pc_type_details.proofs.AnnotationNodes.{annotation_more, as_many, many_applied, many_united, told_sum}
use Rattle.pc_type_details.proofs.sizes.+nodes.Goals as goal

pub nodes_of_each-loop-ann-preserved : goal.nodes_of_each-loop-ann-preserved
nodes_of_each-loop-ann-preserved t c =
    let m = module_held c.args.facts.now in
    let xs = c.args.anns.now in
    let i = c.loop-ann.ann-index in
    let x = c.ann-item.result in
    told_sum (2 ^ 64 - 1) (nodes_of (trees (read_anns m (bases_of m) (anns_of_list (take i xs)))))
    (nodes (reading m (bases_of m) (ann_of x))) _ _ _ c.loop-ann.invariant c.in_ok-annotation_nodes.ensures
    c.saturating_add-count.ensures
    ∙ ap told_nodes (sym (annotation_more m (bases_of m) xs i x c.loop-ann-test.true c.ann-item.is))

pub large_nodes-returns-in_ok-nodes_of_each-in-Apply : goal.large_nodes-returns-in_ok-nodes_of_each-in-Apply
large_nodes-returns-in_ok-nodes_of_each-in-Apply t c =
    let m = module_held c.args.facts.now in
    let v = c.in-Apply.parts in
    let parts = anns_of_list v.items in
    let many = many_applied m (ann_of c.args.ann.now) c.in-Apply.place (name_of c.in-Apply.head) parts
    (applied_is c.args.ann.now c.in-Apply.place c.in-Apply.head v c.in-Apply.is) c.requires.large in
    let part = rw c.deref.ensures.value at c.in_ok-nodes_of_each-in-Apply.ensures in
    omega (arith, many, part)

pub large_nodes-returns-in_ok-nodes_of_each-in-Union : goal.large_nodes-returns-in_ok-nodes_of_each-in-Union
large_nodes-returns-in_ok-nodes_of_each-in-Union t c =
    let m = module_held c.args.facts.now in
    let v = c.in-Union.parts in
    let parts = anns_of_list v.items in
    let many = many_united m (ann_of c.args.ann.now) c.in-Union.field-0 parts
    (union_is c.args.ann.now c.in-Union.field-0 v c.in-Union.is) c.requires.large in
    let part = rw c.deref-in-Union.ensures.value at c.in_ok-nodes_of_each-in-Union.ensures in
    omega (arith, many, part, as_many m v.items, v.ok.0)
