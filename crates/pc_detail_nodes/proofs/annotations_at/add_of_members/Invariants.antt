use Rattle.std.proofs.Common.{◌≡◌, ◌++◌, map, take}
use Rattle.std.specs.Prelude.{flat_map}
use Rattle.pc_tree.specs.Tree.{member_of}
use Rattle.pc_detail_rules.specs.Nodes.{anns_of_member}
use Rattle.pc_detail_nodes.specs.NodesHeld.{ann_lent}
use Rattle.pc_detail_nodes.proofs.annotations_at.add_of_members.Given as goal

abbrev pub invariant-loop-member : goal.invariant-loop-member
invariant-loop-member l = map ann_lent l.anns.items ≡ map ann_lent l.fn.anns.items
    ++ flat_map anns_of_member (map member_of (take l.member-index l.members))
