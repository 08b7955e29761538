use Rattle.std.proofs.Common.{◌≡◌, ◌++◌, map, drop}
use Rattle.pc_tree.specs.Tree.{member_of}
use Rattle.pc_tree.specs.Stopping.{name_of_member}
use Rattle.pc_tree.specs.Lists.{name_seen}
use Rattle.pc_bindings.proofs.binding.add_members.Given as goal

abbrev pub invariant-loop-member : goal.invariant-loop-member
invariant-loop-member l = map name_seen l.names.items
    ++ map name_of_member (map member_of (drop l.member-index l.members))
    ≡ map name_seen l.fn.names.items ++ map name_of_member (map member_of l.members)
