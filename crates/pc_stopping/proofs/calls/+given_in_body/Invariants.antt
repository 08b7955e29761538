use Rattle.std.proofs.Common.{◌≡◌, ◌++◌, drop}
use Rattle.pc_tree.specs.declared.code.Code.TheVariants.{E01}
use Rattle.pc_tree.specs.Stopping.{given_in_stmts, given_in_branches}
use Rattle.pc_tree.specs.Tree.{stmts_of_list}
use Rattle.pc_tree.specs.Lists.{branches_of_list}
use Rattle.pc_tree.specs.Code.{at_code}
use Rattle.pc_stopping.proofs.calls.+given_in_body.Given as goal

abbrev pub invariant-find_given_in_body-loop-statement : goal.invariant-find_given_in_body-loop-statement
invariant-find_given_in_body-loop-statement l = l.found.items ++ at_code E01
    (given_in_stmts (stmts_of_list (drop l.statement-index l.body))) ≡ l.fn.found.items ++ at_code E01
    (given_in_stmts (stmts_of_list l.body))

abbrev pub invariant-find_given_in_branches-loop-branch : goal.invariant-find_given_in_branches-loop-branch
invariant-find_given_in_branches-loop-branch l = l.found.items ++ at_code E01
    (given_in_branches (branches_of_list (drop l.branch-index l.branches))) ≡ l.fn.found.items ++ at_code E01
    (given_in_branches (branches_of_list l.branches))
