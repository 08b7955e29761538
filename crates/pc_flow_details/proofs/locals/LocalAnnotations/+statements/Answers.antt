use Rattle.std.proofs.Common.{◌≡◌, ◌∙◌, ◌+◌, ◌++◌, List, ap, append_assoc, drop, refl, subst, sym}
use Rattle.std.proofs.lemmas.Grind.{flat_map-append}
use Rattle.std.specs.Prelude.{OnOk, flat_map}
use Rattle.pc_tree.specs.Lists.{branches_of_list}
use Rattle.pc_tree.specs.Suites.{branches_of_stmt, last_suite}
use Rattle.pc_tree.specs.Tree.{Branches, Stmts, stmt_of, stmts_of_list}
use Rattle.pc_tree.specs.declared.tree.Branch.{Branch as RustBranch, out-Branch}
use Rattle.pc_tree.specs.declared.tree.Stmt.{Stmt as RustStmt}
use Rattle.pc_tree.proofs.Trees.{branch_tree}
use Rattle.pc_detail_rules.specs.Nodes.{stmts_in, stmts_in_branches, stmts_in_suite}
use Rattle.pc_detail_rules.specs.Written.{Annotated, annotated_stmt}
use Rattle.pc_flow_details.specs.Locals.{AreLocals}
use Rattle.pc_flow_details.proofs.LocalsHeld.{next_left, none_left}
use Rattle.pc_flow_details.proofs.OwnFirst.{nested}
use Rattle.pc_flow_details.proofs.locals.LocalAnnotations.+statements.Goals as goal

pub add_suite-loop-statement-init : goal.add_suite-loop-statement-init
add_suite-loop-statement-init t c = λ before h. record { seen = before; are = h; whole = refl }

pub add_suite-loop-statement-preserved : goal.add_suite-loop-statement-preserved
add_suite-loop-statement-preserved t c = λ before h.
    let s = c.statement-item.result in
    let rest = stmts_in_suite (stmts_of_list (drop (c.loop-statement.statement-index + 1) c.args.suite.now)) in
    next_left _ _ (λ (xs : List RustStmt). flat_map annotated_stmt (stmts_in_suite (stmts_of_list xs)))
    (flat_map annotated_stmt (stmts_in (stmt_of s))) c.args.suite.now c.loop-statement.statement-index s _
    (flat_map-append annotated_stmt (stmts_in (stmt_of s)) rest) c.loop-statement-test.true c.statement-item.is
    (c.loop-statement.invariant before h) c.in_ok-add_statement.ensures

pub add_suite-returns : goal.add_suite-returns
add_suite-returns t c = λ before h.
    none_left _ (λ (xs : List RustStmt). flat_map annotated_stmt (stmts_in_suite (stmts_of_list xs))) c.args.suite.now
    c.loop-statement.statement-index _ refl c.loop-statement-test.false (c.loop-statement.invariant before h)

pub add_branches-loop-branch-init : goal.add_branches-loop-branch-init
add_branches-loop-branch-init t c = λ before h. record { seen = before; are = h; whole = refl }

pub add_branches-loop-branch-preserved : goal.add_branches-loop-branch-preserved
add_branches-loop-branch-preserved t c = λ before h.
    let b = c.branch-item.result in
    let rest = branches_of_list (drop (c.loop-branch.branch-index + 1) c.args.branches.now) in
    let own = stmts_in_suite (stmts_of_list (out-Branch b).body.items) in
    next_left _ _ (λ (xs : List RustBranch). flat_map annotated_stmt (stmts_in_branches (branches_of_list xs)))
    (flat_map annotated_stmt own) c.args.branches.now c.loop-branch.branch-index b _
    (ap (λ (x : Branches). flat_map annotated_stmt (stmts_in_branches x)) (branch_tree b rest)
    ∙ flat_map-append annotated_stmt own (stmts_in_branches rest))
    c.loop-branch-test.true c.branch-item.is (c.loop-branch.invariant before h)
    (rw c.deref.ensures.value at c.in_ok-add_suite.ensures)

pub add_branches-returns : goal.add_branches-returns
add_branches-returns t c = λ before h.
    none_left _ (λ (xs : List RustBranch). flat_map annotated_stmt (stmts_in_branches (branches_of_list xs)))
    c.args.branches.now c.loop-branch.branch-index _ refl c.loop-branch-test.false (c.loop-branch.invariant before h)

pub add_statement-returns : goal.add_statement-returns
add_statement-returns t c = λ before h.
    let p = c.args.statement.now.first in
    let s = stmt_of c.args.statement.now in
    let own = annotated_stmt s in
    let branches = stmts_in_branches (branches_of_stmt s) in
    let last = stmts_in_suite (last_suite s) in
    let here = flat_map annotated_stmt branches in
    subst (λ (l : List Annotated). OnOk c.add_suite.result (AreLocals c.add_suite.new.self l))
    (append_assoc (before ++ own) here (flat_map annotated_stmt last)
    ∙ append_assoc before own (here ++ flat_map annotated_stmt last)
    ∙ ap (λ (l : List Annotated). before ++ l) (sym (ap (flat_map annotated_stmt) (nested s)
    ∙ ap (λ (l : List Annotated). own ++ l) (flat_map-append annotated_stmt branches last))))
    (subst (λ (x : Stmts). OnOk c.add_suite.result (AreLocals c.add_suite.new.self
    (((before ++ own) ++ here) ++ flat_map annotated_stmt (stmts_in_suite x)))) (c.suites.ensures.last p)
    (c.add_suite.ensures ((before ++ own) ++ here)
    (subst (λ (x : Branches). AreLocals c.add_branches.new.self
    ((before ++ own) ++ flat_map annotated_stmt (stmts_in_branches x))) (c.suites.ensures.branches p)
    (c.in_ok-add_branches.ensures (before ++ own) (c.in_ok-add_here.ensures before h)))))
