use Rattle.std.proofs.Common.{◌≡◌, ◌++◌, map, drop}
use Rattle.pc_tree.specs.declared.code.Code.TheVariants.{E30}
use Rattle.pc_tree.specs.Tree.{member_of}
use Rattle.pc_tree.specs.Stopping.{of_members}
use Rattle.pc_tree.specs.Code.{at_code}
use Rattle.pc_scope_findings.specs.Internal.FindingLists.{unreached_def}
use Rattle.pc_scope_findings.proofs.unreached.find_unreached_in_methods.Given as goal

abbrev pub invariant-loop-member : goal.invariant-loop-member
invariant-loop-member l = l.found.items ++ at_code E30 (of_members unreached_def
    (map member_of (drop l.member-index l.members))) ≡ l.fn.found.items ++ at_code E30
    (of_members unreached_def (map member_of l.members))
