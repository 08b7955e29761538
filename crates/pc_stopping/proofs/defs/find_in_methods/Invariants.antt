use Rattle.std.proofs.Common.{◌≡◌, ◌++◌, map, drop, true}
use Rattle.pc_tree.specs.Tree.{member_of}
use Rattle.pc_tree.specs.Stopping.{of_members}
use Rattle.pc_tree.specs.Code.{at_code}
use Rattle.pc_stopping.specs.Found.{code_of, places_by}
use Rattle.pc_stopping.proofs.defs.find_in_methods.Given as goal

abbrev pub invariant-loop-member : goal.invariant-loop-member
invariant-loop-member l = l.found.items ++ at_code (code_of l.rule)
    (of_members (places_by l.rule true) (map member_of (drop l.member-index l.members))) ≡ l.fn.found.items
    ++ at_code (code_of l.rule) (of_members (places_by l.rule true) (map member_of l.members))
