use Rattle.std.proofs.Common.{◌≡◌, drop, ◌++◌}
use Rattle.pc_tree.specs.declared.code.Code.TheVariants.{E30}
use Rattle.pc_tree.specs.Tree.{stmts_of_list}
use Rattle.pc_tree.specs.Lists.{branches_of_list}
use Rattle.pc_tree.specs.Code.{at_code}
use Rattle.pc_scope_findings.specs.Unreached.{unreached_places, unreached_in_branches}
use Rattle.pc_scope_findings.proofs.Reached.{behind}
use Rattle.pc_scope_findings.proofs.unreached.+unreached.Given as goal

abbrev pub invariant-find_unreached-loop-statement : goal.invariant-find_unreached-loop-statement
invariant-find_unreached-loop-statement l = l.found.items ++ at_code E30
    (behind l.reached (stmts_of_list (drop l.statement-index l.body))) ≡ l.fn.found.items ++ at_code E30
    (unreached_places (stmts_of_list l.body))

abbrev pub invariant-find_unreached_among-loop-branch : goal.invariant-find_unreached_among-loop-branch
invariant-find_unreached_among-loop-branch l = l.found.items ++ at_code E30
    (unreached_in_branches (branches_of_list (drop l.branch-index l.branches))) ≡ l.fn.found.items ++ at_code E30
    (unreached_in_branches (branches_of_list l.branches))
