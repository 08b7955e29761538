use Rattle.std.proofs.Common.{List}
use Rattle.pc_tree.specs.declared.tree.Branch.{Branch as RustBranch}
use Rattle.pc_tree.specs.declared.tree.Stmt.{Stmt as RustStmt}
use Rattle.pc_detail_facts.specs.Held.{body_of, known_held, module_held}
use Rattle.pc_tree.specs.Lists.{branches_of_list}
use Rattle.std.specs.Prelude.{flat_map}
use Rattle.pc_detail_rules.specs.Nodes.{stmts_in_branches, stmts_in_suite}
use Rattle.pc_detail_rules.specs.Sinks.{sinks_of_stmt}
use Rattle.pc_tree.specs.Tree.{stmts_of_list}
use Rattle.pc_flow_details.proofs.Kept.{LeftOf}
use Rattle.pc_flow_details.proofs.sinks.+statements.Given as goal

abbrev pub invariant-add_suite-loop-statement : goal.invariant-add_suite-loop-statement
invariant-add_suite-loop-statement l =
    LeftOf l.facts (λ (xs : List (RustStmt)).
    flat_map (sinks_of_stmt (module_held l.facts) (known_held l.facts) (body_of l.body)) (stmts_in_suite (stmts_of_list xs)))
    l.suite l.statement-index l.sinks l.fn.sinks

abbrev pub invariant-add_branches-loop-branch : goal.invariant-add_branches-loop-branch
invariant-add_branches-loop-branch l =
    LeftOf l.facts (λ (xs : List (RustBranch)).
    flat_map (sinks_of_stmt (module_held l.facts) (known_held l.facts) (body_of l.body)) (stmts_in_branches (branches_of_list xs)))
    l.branches l.branch-index l.sinks l.fn.sinks
