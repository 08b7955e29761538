use Rattle.std.proofs.Common.{◌∙◌, ◌-◌, ◌^◌, ap, sym, take}
use Rattle.pc_tree.specs.Depth.{place_of}
use Rattle.pc_tree.specs.Lists.{exprs_of_list}
use Rattle.pc_tree.specs.Tree.{expr_of}
use Rattle.pc_types.specs.Shape.{nodes, nodes_of, trees}
use Rattle.pc_detail_rules.specs.Annotations.{told_nodes}
use Rattle.pc_detail_facts.specs.Held.{known_held, module_held}
use Rattle.pc_detail_rules.specs.Operations.{types_here}
use Rattle.pc_type_details.proofs.AnnotationNodes.{told_with}
use Rattle.pc_type_details.proofs.DisplayNodes.{item_more}
use Rattle.pc_type_details.proofs.sizes.item_nodes.Goals as goal

pub loop-item-preserved : goal.loop-item-preserved
loop-item-preserved c =
    let m = module_held c.args.facts.now in
    let k = known_held c.args.facts.now in
    let xs = c.args.items.now in
    let i = c.loop-item.item-index in
    let x = c.item-item.result in
    told_with (2 ^ 64 - 1) (nodes_of (trees (types_here m k (exprs_of_list (take i xs)))))
    (nodes (k.types (place_of (expr_of x)))) _ _ c.loop-item.invariant
    (rw (c.nodes.ensures, c.type_of.ensures.tree) at c.saturating_add-count.ensures)
    ∙ ap told_nodes (sym (item_more m k xs i x c.loop-item-test.true c.item-item.is))
