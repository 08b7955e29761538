use Rattle.std.proofs.Common.{◌∙◌, ◌+◌, ◌++◌, map, refl, ap, drop}
use Rattle.pc_tree.specs.declared.tree.Branch.{out-Branch}
use Rattle.pc_tree.specs.Tree.{Stmt, Branches, name_of, expr_of, stmts_of_list}
use Rattle.pc_tree.specs.Lists.{branches_of_list}
use Rattle.pc_tree.proofs.Trees.{while_tree, for_tree, if_tree, branches_next}
use Rattle.pc_bindings.specs.Mentions.{in_expr, in_head, in_stmt, in_stmts, in_branches}
use Rattle.pc_bindings.specs.Written.{scope_of, mention_of}
use Rattle.pc_bindings.proofs.Joined.{stepped, joined}
use Rattle.pc_bindings.proofs.statements.+body.Goals as goal

pub add_in_branches-loop-branch-preserved : goal.add_in_branches-loop-branch-preserved
add_in_branches-loop-branch-preserved t c =
    let s = scope_of c.args.scope in
    let branches = c.args.branches.now in
    let i = c.loop-branch.branch-index in
    let front = map mention_of c.loop-branch.mentions.items in
    let one = map mention_of c.add_in_expr.new.mentions.items in
    let two = map mention_of c.add_in_body.new.mentions.items in
    let condition = in_expr s (expr_of (out-Branch c.branch-item.result).condition) in
    let body = in_stmts s (stmts_of_list (out-Branch c.branch-item.result).body.items) in
    let rest = in_branches s (branches_of_list (drop (i + 1) branches)) in
    stepped one two body rest (body ++ rest) (rw c.deref.ensures.value at c.in_ok-add_in_body.ensures) refl
    ∙ (stepped front one condition (body ++ rest) (in_branches s (branches_of_list (drop i branches)))
    c.in_ok-add_in_expr.ensures
    (ap (λ (bs : Branches). in_branches s bs) (branches_next branches i c.branch-item.result
    c.loop-branch-test.true c.branch-item.is))
    ∙ c.loop-branch.invariant)

pub add_in_statement-returns-in_ok-add_in_expr-in-While : goal.add_in_statement-returns-in_ok-add_in_expr-in-While
add_in_statement-returns-in_ok-add_in_expr-in-While t c p =
    let s = scope_of c.args.scope in
    rw c.in-While.is (joined c.add_in_body.result (map mention_of c.args.mentions.now.items)
    (map mention_of c.add_in_expr-in-While.new.mentions.items) (map mention_of c.add_in_body.new.mentions.items)
    (in_expr s (expr_of c.in-While.condition.value)) (in_stmts s (stmts_of_list c.in-While.body.items)) _
    (rw c.deref-in-While.ensures at c.in_ok-add_in_expr-in-While.ensures)
    (ap (λ (it : Stmt). in_stmt s it) (while_tree p c.in-While.condition c.in-While.body))
    (rw c.deref-in-While-2.ensures.value at c.add_in_body.ensures))

pub add_in_statement-returns-in_ok-add_loop_head-in-For : goal.add_in_statement-returns-in_ok-add_loop_head-in-For
add_in_statement-returns-in_ok-add_loop_head-in-For t c p =
    let s = scope_of c.args.scope in
    rw c.in-For.is (joined c.add_in_body-in-For.result (map mention_of c.args.mentions.now.items)
    (map mention_of c.add_loop_head.new.mentions.items) (map mention_of c.add_in_body-in-For.new.mentions.items)
    (in_head s (name_of c.in-For.name) (expr_of c.in-For.iterable.value))
    (in_stmts s (stmts_of_list c.in-For.body.items)) _
    (rw c.deref-in-For.ensures at c.in_ok-add_loop_head-in-For.ensures)
    (ap (λ (it : Stmt). in_stmt s it) (for_tree p c.in-For.name c.in-For.iterable c.in-For.body))
    (rw c.deref-in-For-2.ensures.value at c.add_in_body-in-For.ensures))

pub add_in_statement-returns-in_ok-add_in_branches-in-If : goal.add_in_statement-returns-in_ok-add_in_branches-in-If
add_in_statement-returns-in_ok-add_in_branches-in-If t c p =
    let s = scope_of c.args.scope in
    rw c.in-If.is (joined c.add_in_body-in-If.result (map mention_of c.args.mentions.now.items)
    (map mention_of c.add_in_branches.new.mentions.items) (map mention_of c.add_in_body-in-If.new.mentions.items)
    (in_branches s (branches_of_list c.in-If.branches.items)) (in_stmts s (stmts_of_list c.in-If.otherwise.items)) _
    (rw c.deref-in-If.ensures.value at c.in_ok-add_in_branches-in-If.ensures)
    (ap (λ (it : Stmt). in_stmt s it) (if_tree p c.in-If.branches c.in-If.otherwise))
    (rw c.deref-in-If-2.ensures.value at c.add_in_body-in-If.ensures))
