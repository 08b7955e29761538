use Rattle.std.proofs.Common.{◌≡◌, ◌++◌, map, drop}
use Rattle.pc_annotations.specs.Listed.{anns_of_list}
use Rattle.pc_detail_rules.specs.Nodes.{anns_in_all}
use Rattle.pc_detail_nodes.specs.NodesHeld.{ann_lent}
use Rattle.pc_detail_nodes.proofs.annotations_at.+anns.Given as goal

abbrev pub invariant-add_each-loop-part : goal.invariant-add_each-loop-part
invariant-add_each-loop-part l = map ann_lent l.anns.items
    ++ anns_in_all (anns_of_list (drop l.part-index l.parts)) ≡ map ann_lent l.fn.anns.items
    ++ anns_in_all (anns_of_list l.parts)
