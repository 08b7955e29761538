use Rattle.std.proofs.Common.{◌≡◌, ◌++◌, ◌∙◌, sym, subst, List, true}
use Rattle.std.specs.Prelude.{OnOk}
use Rattle.pc_tree.specs.declared.code.Code.TheVariants.{E02}
use Rattle.pc_tree.specs.declared.code.Finding.{Finding}
use Rattle.pc_tree.specs.Tree.{Stmt, expr_of, stmts_of_list}
use Rattle.pc_tree.specs.Lists.{branches_of_list}
use Rattle.pc_tree.proofs.Trees.{while_tree, for_tree, if_tree}
use Rattle.pc_scope.specs.Expressions.{exprs_in, exprs_in_all, exprs_in_branches}
use Rattle.pc_tree.specs.Code.{at_code}
use Rattle.pc_scope_findings.specs.Internal.FindingLists.{unknown_in}
use Rattle.pc_scope.specs.Tables.{meaning_by_tables}
use Rattle.pc_scope_findings.proofs.UnknownIn.{then_exprs, then_in, stmt_more, branch_more}
use Rattle.pc_scope_findings.proofs.unknown.+unknown_in_body.Goals as goal

pub
    find_unknown_in_statement-returns-in_ok-find_unknown-in-While : goal.find_unknown_in_statement-returns-in_ok-find_unknown-in-While
find_unknown_in_statement-returns-in_ok-find_unknown-in-While t c first =
    let e = then_in (meaning_by_tables c.args.scopes.now.tables c.args.owner) c.args.found.now.items
    c.find_unknown-in-While.new.found.items (expr_of c.in-While.condition.value)
    (exprs_in_all true (stmts_of_list c.in-While.body.items))
    (rw c.deref-in-While.ensures at c.in_ok-find_unknown-in-While.ensures) in
    rw c.in-While.is (subst (λ (s : Stmt). OnOk c.find_unknown_in_body.result
    (c.find_unknown_in_body.new.found.items ≡ c.args.found.now.items ++ at_code E02
    (unknown_in (meaning_by_tables c.args.scopes.now.tables c.args.owner) (exprs_in true s))))
    (sym (while_tree first c.in-While.condition c.in-While.body))
    (subst (λ (fs : List Finding). OnOk c.find_unknown_in_body.result (c.find_unknown_in_body.new.found.items ≡ fs)) e
    (rw c.deref-in-While-2.ensures.value at c.find_unknown_in_body.ensures)))

pub
    find_unknown_in_statement-returns-in_ok-find_unknown-in-For : goal.find_unknown_in_statement-returns-in_ok-find_unknown-in-For
find_unknown_in_statement-returns-in_ok-find_unknown-in-For t c first =
    let e = then_in (meaning_by_tables c.args.scopes.now.tables c.args.owner) c.args.found.now.items
    c.find_unknown-in-For.new.found.items (expr_of c.in-For.iterable.value)
    (exprs_in_all true (stmts_of_list c.in-For.body.items)) (rw c.deref-in-For.ensures at
    c.in_ok-find_unknown-in-For.ensures) in
    rw c.in-For.is (subst (λ (s : Stmt). OnOk c.find_unknown_in_body-in-For.result
    (c.find_unknown_in_body-in-For.new.found.items ≡ c.args.found.now.items ++ at_code E02
    (unknown_in (meaning_by_tables c.args.scopes.now.tables c.args.owner) (exprs_in true s))))
    (sym (for_tree first c.in-For.target c.in-For.iterable c.in-For.body))
    (subst (λ (fs : List Finding). OnOk c.find_unknown_in_body-in-For.result
    (c.find_unknown_in_body-in-For.new.found.items ≡ fs)) e (rw c.deref-in-For-2.ensures.value at
    c.find_unknown_in_body-in-For.ensures)))

pub
    find_unknown_in_statement-returns-in_ok-find_unknown_in_branches-in-If : goal.find_unknown_in_statement-returns-in_ok-find_unknown_in_branches-in-If
find_unknown_in_statement-returns-in_ok-find_unknown_in_branches-in-If t c first =
    let e = then_exprs (meaning_by_tables c.args.scopes.now.tables c.args.owner) c.args.found.now.items
    c.find_unknown_in_branches.new.found.items (exprs_in_branches true (branches_of_list c.in-If.branches.items))
    (exprs_in_all true (stmts_of_list c.in-If.otherwise.items))
    (rw c.deref-in-If.ensures.value at c.in_ok-find_unknown_in_branches-in-If.ensures) in
    rw c.in-If.is (subst (λ (s : Stmt). OnOk c.find_unknown_in_body-in-If.result
    (c.find_unknown_in_body-in-If.new.found.items ≡ c.args.found.now.items ++ at_code E02
    (unknown_in (meaning_by_tables c.args.scopes.now.tables c.args.owner) (exprs_in true s))))
    (sym (if_tree first c.in-If.branches c.in-If.otherwise))
    (subst (λ (fs : List Finding). OnOk c.find_unknown_in_body-in-If.result
    (c.find_unknown_in_body-in-If.new.found.items ≡ fs)) e (rw c.deref-in-If-2.ensures.value at
    c.find_unknown_in_body-in-If.ensures)))

pub find_unknown_in_body-loop-statement-preserved : goal.find_unknown_in_body-loop-statement-preserved
find_unknown_in_body-loop-statement-preserved t c =
    let all = c.args.found.now.items ++ at_code E02 (unknown_in
    (meaning_by_tables c.args.scopes.now.tables c.args.owner)
    (exprs_in_all true (stmts_of_list c.args.body.now))) in
    stmt_more (meaning_by_tables c.args.scopes.now.tables c.args.owner) c.loop-statement.found.items all
    c.find_unknown_in_statement.new.found.items c.args.body.now c.loop-statement.statement-index
    c.statement-item.result c.loop-statement-test.true c.statement-item.is
    (sym (c.completes.ensures c.statement-item.result.first) ∙ c.if-not-completes.false) c.loop-statement.invariant
    (c.in_ok-find_unknown_in_statement.ensures c.statement-item.result.first)

pub find_unknown_in_branches-loop-branch-preserved : goal.find_unknown_in_branches-loop-branch-preserved
find_unknown_in_branches-loop-branch-preserved t c =
    let all = c.args.found.now.items ++ at_code E02 (unknown_in
    (meaning_by_tables c.args.scopes.now.tables c.args.owner)
    (exprs_in_branches true (branches_of_list c.args.branches.now))) in
    branch_more (meaning_by_tables c.args.scopes.now.tables c.args.owner) c.loop-branch.found.items all
    c.find_unknown.new.found.items c.find_unknown_in_body.new.found.items c.args.branches.now
    c.loop-branch.branch-index c.branch-item.result c.loop-branch-test.true c.branch-item.is c.loop-branch.invariant
    c.in_ok-find_unknown.ensures (rw c.deref.ensures.value at c.in_ok-find_unknown_in_body.ensures)
