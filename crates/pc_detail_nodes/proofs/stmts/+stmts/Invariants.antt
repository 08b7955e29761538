use Rattle.std.proofs.Common.{◌≡◌, drop, map, ◌++◌}
use Rattle.pc_tree.specs.Lists.{branches_of_list}
use Rattle.pc_tree.specs.Tree.{stmts_of_list}
use Rattle.pc_detail_rules.specs.Nodes.{stmts_in_branches, stmts_in_suite}
use Rattle.pc_detail_facts.specs.Held.{stmt_lent}
use Rattle.pc_detail_nodes.proofs.stmts.+stmts.Given as goal

abbrev pub invariant-add_stmts-loop-statement : goal.invariant-add_stmts-loop-statement
invariant-add_stmts-loop-statement l = map stmt_lent l.stmts.items
    ++ stmts_in_suite (stmts_of_list (drop l.statement-index l.suite)) ≡ map stmt_lent l.fn.stmts.items
    ++ stmts_in_suite (stmts_of_list l.suite)

abbrev pub invariant-add_branches-loop-branch : goal.invariant-add_branches-loop-branch
invariant-add_branches-loop-branch l = map stmt_lent l.stmts.items
    ++ stmts_in_branches (branches_of_list (drop l.branch-index l.branches)) ≡ map stmt_lent l.fn.stmts.items
    ++ stmts_in_branches (branches_of_list l.branches)
