use Rattle.std.proofs.Common.{◌++◌, List, drop}
use Rattle.std.specs.Prelude.{flat_map}
use Rattle.pc_tree.specs.Lists.{branches_of_list}
use Rattle.pc_tree.specs.Tree.{stmts_of_list}
use Rattle.pc_detail_rules.specs.Nodes.{stmts_in_branches, stmts_in_suite}
use Rattle.pc_detail_rules.specs.Written.{Annotated, annotated_stmt}
use Rattle.pc_flow_details.specs.Locals.{AreLocals}
use Rattle.pc_flow_details.proofs.LocalsHeld.{AreLeft}
use Rattle.pc_flow_details.proofs.locals.LocalAnnotations.+statements.Given as goal

abbrev pub invariant-add_suite-loop-statement : goal.invariant-add_suite-loop-statement
invariant-add_suite-loop-statement l = (before : List Annotated) → AreLocals l.fn.self before
    → AreLeft l.self (flat_map annotated_stmt (stmts_in_suite (stmts_of_list (drop l.statement-index l.suite))))
    (before ++ flat_map annotated_stmt (stmts_in_suite (stmts_of_list l.suite)))

abbrev pub invariant-add_branches-loop-branch : goal.invariant-add_branches-loop-branch
invariant-add_branches-loop-branch l = (before : List Annotated) → AreLocals l.fn.self before
    → AreLeft l.self (flat_map annotated_stmt (stmts_in_branches (branches_of_list (drop l.branch-index l.branches))))
    (before ++ flat_map annotated_stmt (stmts_in_branches (branches_of_list l.branches)))
