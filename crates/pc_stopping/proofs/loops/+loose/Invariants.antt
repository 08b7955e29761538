use Rattle.std.proofs.Common.{◌≡◌, drop, ◌++◌}
use Rattle.pc_tree.specs.declared.code.Code.TheVariants.{E05}
use Rattle.pc_tree.specs.Tree.{stmts_of_list}
use Rattle.pc_tree.specs.Lists.{branches_of_list}
use Rattle.pc_tree.specs.Stopping.{loose_in, loose_in_branches}
use Rattle.pc_tree.specs.Code.{at_code}
use Rattle.pc_stopping.proofs.loops.+loose.Given as goal

abbrev pub invariant-find_loose-loop-statement : goal.invariant-find_loose-loop-statement
invariant-find_loose-loop-statement l = l.found.items ++ at_code E05
    (loose_in (stmts_of_list (drop l.statement-index l.body))) ≡ l.fn.found.items ++ at_code E05
    (loose_in (stmts_of_list l.body))

abbrev pub invariant-find_loose_in-loop-branch : goal.invariant-find_loose_in-loop-branch
invariant-find_loose_in-loop-branch l = l.found.items ++ at_code E05
    (loose_in_branches (branches_of_list (drop l.branch-index l.branches))) ≡ l.fn.found.items ++ at_code E05
    (loose_in_branches (branches_of_list l.branches))
