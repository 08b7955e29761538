use Rattle.std.proofs.Common.{◌≡◌, map, take}
use Rattle.std.specs.Prelude.{flat_map}
use Rattle.pc_detail_rules.specs.Nodes.{anns_in}
use Rattle.pc_detail_nodes.specs.NodesHeld.{ann_lent}
use Rattle.pc_detail_nodes.proofs.annotations_at.all_anns.Given as goal

abbrev pub invariant-loop-annotation : goal.invariant-loop-annotation
invariant-loop-annotation l = map ann_lent l.anns.items
    ≡ flat_map anns_in (map ann_lent (take l.annotation-index l.annotation-items))
