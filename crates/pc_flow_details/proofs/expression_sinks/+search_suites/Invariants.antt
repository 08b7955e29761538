use Rattle.std.proofs.Common.{List, false}
use Rattle.pc_tree.specs.Lists.{branches_of_list}
use Rattle.pc_tree.specs.Tree.{stmts_of_list}
use Rattle.pc_tree.specs.declared.tree.Branch.{Branch as RustBranch}
use Rattle.pc_tree.specs.declared.tree.Stmt.{Stmt as RustStmt}
use Rattle.pc_scope.specs.Expressions.{exprs_in_all, exprs_in_branches}
use Rattle.pc_flow_details.specs.Kept.{taken_below}
use Rattle.pc_flow_details.proofs.Kept.{LeftOf}
use Rattle.pc_flow_details.proofs.expression_sinks.+search_suites.Given as goal

abbrev pub invariant-search_suite-loop-statement : goal.invariant-search_suite-loop-statement
invariant-search_suite-loop-statement l =
    LeftOf l.facts (λ (xs : List RustStmt). taken_below l.facts l.owner (exprs_in_all false (stmts_of_list xs)))
    l.suite l.statement-index l.sinks l.fn.sinks

abbrev pub invariant-search_branches-loop-branch : goal.invariant-search_branches-loop-branch
invariant-search_branches-loop-branch l =
    LeftOf l.facts (λ (xs : List RustBranch). taken_below l.facts l.owner (exprs_in_branches false (branches_of_list xs)))
    l.branches l.branch-index l.sinks l.fn.sinks
