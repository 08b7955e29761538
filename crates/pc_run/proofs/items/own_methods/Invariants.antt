use Rattle.std.proofs.Common.{◌≡◌, ◌++◌, ◌∷◌, drop, map}
use Rattle.pc_machine.specs.Machine.{method_of_def}
use Rattle.pc_run.specs.Internal.Items.{members_made}
use Rattle.pc_tree.specs.Tree.{member_of}
use Rattle.pc_run.proofs.items.own_methods.Given as goal

abbrev pub invariant-loop-member : goal.invariant-loop-member
invariant-loop-member l = map method_of_def l.methods.items
    ++ (members_made (map member_of (drop l.member-index l.members))).methods
    ≡ (members_made (map member_of l.members)).methods
