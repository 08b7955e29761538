use Rattle.std.proofs.Common.{◌≡◌, ◌++◌, map, take}
use Rattle.pc_tree.specs.Lists.{name_seen}
use Rattle.pc_tree.specs.Stopping.{name_of_member}
use Rattle.pc_tree.specs.Tree.{member_of}
use Rattle.pc_name_details.proofs.bound_names.add_member_names.Given as goal

abbrev pub invariant-loop-member : goal.invariant-loop-member
invariant-loop-member l = map name_seen l.names.items
    ≡ map name_seen l.initial.names.items ++ map name_of_member (map member_of (take l.member-index l.member-items))
