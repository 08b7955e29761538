use Rattle.std.proofs.Common.{◌≡◌, take}
use Rattle.pc_tree.specs.Lists.{exprs_of_list}
use Rattle.pc_types.specs.Shape.{nodes_of, trees}
use Rattle.pc_detail_rules.specs.Annotations.{told_nodes}
use Rattle.pc_detail_facts.specs.Held.{known_held, module_held}
use Rattle.pc_detail_rules.specs.Operations.{types_here}
use Rattle.pc_type_details.proofs.sizes.item_nodes.Given as goal

abbrev pub invariant-loop-item : goal.invariant-loop-item
invariant-loop-item l = l.count ≡ told_nodes (nodes_of (trees
    (types_here (module_held l.facts) (known_held l.facts) (exprs_of_list (take l.item-index l.items)))))
