use Rattle.std.proofs.Common.{◌≡◌, drop, map}
use Rattle.std.specs.Prelude.{find}
use Rattle.pc_tree.specs.Tree.{member_of}
use Rattle.pc_name_details.specs.Naming.{has_word}
use Rattle.pc_name_details.proofs.class_members.member_named.Given as goal

abbrev pub invariant-loop-member : goal.invariant-loop-member
invariant-loop-member l = find (has_word l.word) (map member_of (drop l.member-index l.members))
    ≡ find (has_word l.word) (map member_of l.members)
