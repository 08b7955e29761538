use Rattle.std.proofs.Common.{◌≡◌, ◌++◌, ◌∷◌, drop, map}
use Rattle.pc_run.specs.Internal.Items.{members_have_values}
use Rattle.pc_tree.specs.Tree.{member_of}
use Rattle.pc_run.proofs.items.members_have_values.Given as goal

abbrev pub invariant-loop-member : goal.invariant-loop-member
invariant-loop-member l = members_have_values (map member_of (drop l.member-index l.members)) ≡ members_have_values
    (map member_of l.members)
