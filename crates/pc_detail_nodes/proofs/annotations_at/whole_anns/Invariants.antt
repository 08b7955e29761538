use Rattle.std.proofs.Common.{◌≡◌, map, take}
use Rattle.std.specs.Prelude.{flat_map}
use Rattle.pc_tree.specs.Tree.{item_of}
use Rattle.pc_detail_rules.specs.Nodes.{anns_of_item}
use Rattle.pc_detail_nodes.specs.NodesHeld.{ann_lent}
use Rattle.pc_detail_nodes.proofs.annotations_at.whole_anns.Given as goal

abbrev pub invariant-loop-item : goal.invariant-loop-item
invariant-loop-item l = map ann_lent l.anns.items
    ≡ flat_map anns_of_item (map item_of (take l.item-index l.item-items))
