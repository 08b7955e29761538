use Rattle.std.proofs.Common.{◌≡◌, ◌++◌, ◌∷◌, drop, map}
use Rattle.pc_machine.specs.Machine.{parameter_of}
use Rattle.pc_run.specs.Internal.Items.{members_made}
use Rattle.pc_tree.specs.Tree.{member_of}
use Rattle.pc_run.proofs.items.fields.Given as goal

abbrev pub invariant-loop-member : goal.invariant-loop-member
invariant-loop-member l = map parameter_of l.fields.items
    ++ (members_made (map member_of (drop l.member-index l.members))).fields ≡ map parameter_of l.initial.fields.items
    ++ (members_made (map member_of l.members)).fields
