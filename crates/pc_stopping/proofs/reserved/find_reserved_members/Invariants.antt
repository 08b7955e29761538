use Rattle.std.proofs.Common.{◌≡◌, ◌++◌, map, drop}
use Rattle.pc_tree.specs.Tree.{member_of}
use Rattle.pc_tree.specs.declared.code.Code.TheVariants.{E29}
use Rattle.pc_tree.specs.Stopping.{reserved_members}
use Rattle.pc_tree.specs.Code.{at_code}
use Rattle.pc_stopping.proofs.reserved.find_reserved_members.Given as goal

abbrev pub invariant-loop-member : goal.invariant-loop-member
invariant-loop-member l = l.found.items ++ at_code E29 (reserved_members
    (map member_of (drop l.member-index l.members))) ≡ l.fn.found.items ++ at_code E29
    (reserved_members (map member_of l.members))
