use Rattle.std.proofs.Common.{◌≡◌, ◌++◌, ◌∙◌, [], ◌+◌, sym, ap, inl, inr, List, append_assoc, arith, drop, false, rules}
use Rattle.pc_tree.specs.Tree.{Branches, Stmt, expr_of, option_expr_of, stmt_of, stmt_of_kind, stmts_of_list, target_of}
use Rattle.pc_tree.specs.Lists.{branches_of_list}
use Rattle.pc_tree.specs.declared.tree.Branch.{Branch as RustBranch, out-Branch}
use Rattle.pc_tree.specs.declared.tree.Stmt.{Stmt as RustStmt}
use Rattle.pc_tree.specs.declared.tree.StmtKind.{StmtKind}
use Rattle.pc_tree.specs.declared.tree.StmtKind.TheFolds.{the_lemmas}
use Rattle.pc_tree.proofs.Trees.{branch_tree, for_tree, if_tree, while_tree}
use Rattle.pc_scope.specs.Expressions.{exprs_in, exprs_in_all, exprs_in_branches, option_exprs, parts_in, target_exprs}
use Rattle.pc_flow_details.specs.Kept.{flows_kept, taken_below, taken_in}
use Rattle.pc_detail_rules.specs.Sinks.{SinkAt}
use Rattle.pc_flow_details.proofs.Kept.{alone_below, both_below, by_two, end_of, next_of, none_below, on_whole, one_below}
use Rattle.pc_flow_details.proofs.SearchedSinks.{nothing_below, on_same}
use Rattle.pc_flow_details.proofs.expression_sinks.+search_suites.Goals as goal

-- ---- suites and branches

pub search_suite-loop-statement-preserved : goal.search_suite-loop-statement-preserved
search_suite-loop-statement-preserved t c =
    let f = c.args.facts.now in
    let o = c.args.owner in
    let s = c.statement-item.result in
    let own = exprs_in false (stmt_of s) in
    let rest = exprs_in_all false (stmts_of_list (drop (c.loop-statement.statement-index + 1) c.args.suite.now)) in
    next_of f (λ (xs : List RustStmt). taken_below f o (exprs_in_all false (stmts_of_list xs))) (taken_below f o own)
    c.args.suite.now c.loop-statement.statement-index s _ _ _ (both_below f o own rest)
    c.loop-statement-test.true c.statement-item.is c.loop-statement.invariant
    (c.in_ok-search_statement.ensures s.first)

pub search_suite-returns : goal.search_suite-returns
search_suite-returns t c =
    let f = c.args.facts.now in
    end_of f (λ (xs : List RustStmt). taken_below f c.args.owner (exprs_in_all false (stmts_of_list xs)))
    c.args.suite.now c.loop-statement.statement-index _ _ (none_below f c.args.owner) c.loop-statement-test.false
    c.loop-statement.invariant

pub search_branches-loop-branch-preserved : goal.search_branches-loop-branch-preserved
search_branches-loop-branch-preserved t c =
    let f = c.args.facts.now in
    let o = c.args.owner in
    let b = c.branch-item.result in
    let rest = branches_of_list (drop (c.loop-branch.branch-index + 1) c.args.branches.now) in
    let condition = expr_of (out-Branch b).condition in
    let body = exprs_in_all false (stmts_of_list (out-Branch b).body.items) in
    let after = exprs_in_branches false rest in
    next_of f (λ (xs : List RustBranch). taken_below f o (exprs_in_branches false (branches_of_list xs)))
    (taken_in f o (parts_in false condition) ++ taken_below f o body) c.args.branches.now c.loop-branch.branch-index b
    _ _ _ (ap (λ (x : Branches). taken_below f o (exprs_in_branches false x)) (branch_tree b rest)
    ∙ one_below f o condition (body ++ after)
    ∙ ap (λ (l : List SinkAt). taken_in f o (parts_in false condition) ++ l) (both_below f o body after)
    ∙ sym (append_assoc (taken_in f o (parts_in false condition)) (taken_below f o body) (taken_below f o after)))
    c.loop-branch-test.true c.branch-item.is c.loop-branch.invariant
    (by_two f _ _ _ (taken_in f o (parts_in false condition)) (taken_below f o body) c.in_ok-search.ensures
    (rw c.deref.ensures.value at c.in_ok-search_suite.ensures))

pub search_branches-returns : goal.search_branches-returns
search_branches-returns t c =
    let f = c.args.facts.now in
    end_of f (λ (xs : List RustBranch). taken_below f c.args.owner (exprs_in_branches false (branches_of_list xs)))
    c.args.branches.now c.loop-branch.branch-index _ _ (none_below f c.args.owner) c.loop-branch-test.false
    c.loop-branch.invariant

-- ---- simple statements

pub search_statement-returns-in-Pass : goal.search_statement-returns-in-Pass
search_statement-returns-in-Pass t c first =
    let exprs = λ (k : StmtKind). exprs_in false (stmt_of_kind first k) in
    let none : exprs_in false (stmt_of_kind first c.args.kind.now) ≡ [] = elim c.in-Pass.is [
      | inl e ↦ ap exprs e
      | inr v ↦
          elim v [
            | inl e ↦ ap exprs e
            | inr e ↦ ap exprs e
          ]
    ] in
    nothing_below c.args.facts.now c.args.owner (flows_kept c.args.sinks.now)
    (exprs_in false (stmt_of_kind first c.args.kind.now)) none

pub search_statement-returns-in-Pass-2 : goal.search_statement-returns-in-Pass-2
search_statement-returns-in-Pass-2 t c first =
    let exprs = λ (k : StmtKind). exprs_in false (stmt_of_kind first k) in
    let none : exprs_in false (stmt_of_kind first c.args.kind.now) ≡ [] = elim c.in-Pass.is [
      | inl e ↦ ap exprs e
      | inr v ↦
          elim v [
            | inl e ↦ ap exprs e
            | inr e ↦ ap exprs e
          ]
    ] in
    nothing_below c.args.facts.now c.args.owner (flows_kept c.args.sinks.now)
    (exprs_in false (stmt_of_kind first c.args.kind.now)) none

pub search_statement-returns-in-Pass-3 : goal.search_statement-returns-in-Pass-3
search_statement-returns-in-Pass-3 t c first =
    let exprs = λ (k : StmtKind). exprs_in false (stmt_of_kind first k) in
    let none : exprs_in false (stmt_of_kind first c.args.kind.now) ≡ [] = elim c.in-Pass.is [
      | inl e ↦ ap exprs e
      | inr v ↦
          elim v [
            | inl e ↦ ap exprs e
            | inr e ↦ ap exprs e
          ]
    ] in
    nothing_below c.args.facts.now c.args.owner (flows_kept c.args.sinks.now)
    (exprs_in false (stmt_of_kind first c.args.kind.now)) none

pub search_statement-returns-in_ok-search-in-Assert : goal.search_statement-returns-in_ok-search-in-Assert
search_statement-returns-in_ok-search-in-Assert t c first =
    let f = c.args.facts.now in
    let o = c.args.owner in
    let condition = expr_of c.in-Assert.condition.value in
    let message = option_exprs (option_expr_of c.in-Assert.message) in
    on_whole f c.search_option-in-Assert.result (flows_kept c.args.sinks.now) (flows_kept c.search.new.sinks)
    (flows_kept c.search_option-in-Assert.new.sinks) (taken_in f o (parts_in false condition)) (taken_below f o message)
    (taken_below f o (exprs_in false (stmt_of_kind first c.args.kind.now)))
    (ap (λ (k : StmtKind). taken_below f o (exprs_in false (stmt_of_kind first k))) c.in-Assert.is
    ∙ one_below f o condition message)
    (rw c.deref.ensures at c.in_ok-search-in-Assert.ensures) c.search_option-in-Assert.ensures

pub search_statement-returns-in_ok-search-in-Assign : goal.search_statement-returns-in_ok-search-in-Assign
search_statement-returns-in_ok-search-in-Assign t c first =
    let f = c.args.facts.now in
    let o = c.args.owner in
    let value = expr_of c.in-Assign.value.value in
    let target = target_exprs (target_of c.in-Assign.target) in
    on_whole f c.search_target.result (flows_kept c.args.sinks.now) (flows_kept c.search-in-Assign.new.sinks)
    (flows_kept c.search_target.new.sinks) (taken_in f o (parts_in false value)) (taken_below f o target)
    (taken_below f o (exprs_in false (stmt_of_kind first c.args.kind.now)))
    (ap (λ (k : StmtKind). taken_below f o (exprs_in false (stmt_of_kind first k))) c.in-Assign.is
    ∙ one_below f o value target)
    (rw c.deref-in-Assign.ensures at c.in_ok-search-in-Assign.ensures) c.search_target.ensures

pub search_statement-returns-in-Expr : goal.search_statement-returns-in-Expr
search_statement-returns-in-Expr t c first =
    let f = c.args.facts.now in
    let o = c.args.owner in
    let value = expr_of c.in-Expr.value in
    on_same f c.search-in-Expr.result (flows_kept c.args.sinks.now) (flows_kept c.search-in-Expr.new.sinks)
    (taken_in f o (parts_in false value)) (taken_below f o (exprs_in false (stmt_of_kind first c.args.kind.now)))
    (ap (λ (k : StmtKind). taken_below f o (exprs_in false (stmt_of_kind first k))) c.in-Expr.is
    ∙ alone_below f o value)
    c.search-in-Expr.ensures

-- ---- statements with suites

pub search_statement-returns-in_ok-search-in-While : goal.search_statement-returns-in_ok-search-in-While
search_statement-returns-in_ok-search-in-While t c first =
    let f = c.args.facts.now in
    let o = c.args.owner in
    let condition = expr_of c.in-While.condition.value in
    let body = exprs_in_all false (stmts_of_list c.in-While.body.items) in
    on_whole f c.search_suite.result (flows_kept c.args.sinks.now) (flows_kept c.search-in-While.new.sinks)
    (flows_kept c.search_suite.new.sinks) (taken_in f o (parts_in false condition)) (taken_below f o body)
    (taken_below f o (exprs_in false (stmt_of_kind first c.args.kind.now)))
    (ap (λ (k : StmtKind). taken_below f o (exprs_in false (stmt_of_kind first k))) c.in-While.is
    ∙ ap (λ (s : Stmt). taken_below f o (exprs_in false s)) (while_tree first c.in-While.condition c.in-While.body)
    ∙ one_below f o condition body)
    (rw c.deref-in-While.ensures at c.in_ok-search-in-While.ensures)
    (rw c.deref-in-While-2.ensures.value at c.search_suite.ensures)

pub search_statement-returns-in_ok-search-in-For : goal.search_statement-returns-in_ok-search-in-For
search_statement-returns-in_ok-search-in-For t c first =
    let f = c.args.facts.now in
    let o = c.args.owner in
    let iterable = expr_of c.in-For.iterable.value in
    let body = exprs_in_all false (stmts_of_list c.in-For.body.items) in
    on_whole f c.search_suite-in-For.result (flows_kept c.args.sinks.now) (flows_kept c.search-in-For.new.sinks)
    (flows_kept c.search_suite-in-For.new.sinks) (taken_in f o (parts_in false iterable)) (taken_below f o body)
    (taken_below f o (exprs_in false (stmt_of_kind first c.args.kind.now)))
    (ap (λ (k : StmtKind). taken_below f o (exprs_in false (stmt_of_kind first k))) c.in-For.is
    ∙ ap (λ (s : Stmt). taken_below f o (exprs_in false s))
    (for_tree first c.in-For.target c.in-For.iterable c.in-For.body)
    ∙ one_below f o iterable body)
    (rw c.deref-in-For.ensures at c.in_ok-search-in-For.ensures)
    (rw c.deref-in-For-2.ensures.value at c.search_suite-in-For.ensures)

pub search_statement-returns-in_ok-search_branches-in-If : goal.search_statement-returns-in_ok-search_branches-in-If
search_statement-returns-in_ok-search_branches-in-If t c first =
    let f = c.args.facts.now in
    let o = c.args.owner in
    let branches = exprs_in_branches false (branches_of_list c.in-If.branches.items) in
    let otherwise = exprs_in_all false (stmts_of_list c.in-If.otherwise.items) in
    on_whole f c.search_suite-in-If.result (flows_kept c.args.sinks.now) (flows_kept c.search_branches.new.sinks)
    (flows_kept c.search_suite-in-If.new.sinks) (taken_below f o branches) (taken_below f o otherwise)
    (taken_below f o (exprs_in false (stmt_of_kind first c.args.kind.now)))
    (ap (λ (k : StmtKind). taken_below f o (exprs_in false (stmt_of_kind first k))) c.in-If.is
    ∙ ap (λ (s : Stmt). taken_below f o (exprs_in false s)) (if_tree first c.in-If.branches c.in-If.otherwise)
    ∙ both_below f o branches otherwise)
    (rw c.deref-in-If.ensures.value at c.in_ok-search_branches-in-If.ensures)
    (rw c.deref-in-If-2.ensures.value at c.search_suite-in-If.ensures)

pub search_statement-search_branches-requires : goal.search_statement-search_branches-requires
search_statement-search_branches-requires t c =
    (first_of (search (rules, the_lemmas), grind (the_lemmas, arith)), c.requires)

pub search_statement-search_suite-requires-in-If : goal.search_statement-search_suite-requires-in-If
search_statement-search_suite-requires-in-If t c =
    (first_of (search (rules, the_lemmas), grind (the_lemmas, arith)), c.requires)
