use Rattle.std.proofs.Common.{◌≡◌, drop, map, ◌++◌, false}
use Rattle.pc_tree.specs.Lists.{branches_of_list}
use Rattle.pc_tree.specs.Tree.{stmts_of_list}
use Rattle.pc_scope.specs.Expressions.{exprs_in_all, exprs_in_branches}
use Rattle.pc_detail_nodes.specs.NodesHeld.{expr_lent}
use Rattle.pc_detail_nodes.proofs.exprs.+exprs.Given as goal

abbrev pub invariant-add_suite-loop-statement : goal.invariant-add_suite-loop-statement
invariant-add_suite-loop-statement l = map expr_lent l.exprs.items
    ++ exprs_in_all false (stmts_of_list (drop l.statement-index l.suite)) ≡ map expr_lent l.fn.exprs.items
    ++ exprs_in_all false (stmts_of_list l.suite)

abbrev pub invariant-add_branches-loop-branch : goal.invariant-add_branches-loop-branch
invariant-add_branches-loop-branch l = map expr_lent l.exprs.items
    ++ exprs_in_branches false (branches_of_list (drop l.branch-index l.branches)) ≡ map expr_lent l.fn.exprs.items
    ++ exprs_in_branches false (branches_of_list l.branches)
