use Rattle.std.proofs.Common.{◌∙◌, ◌+◌, ◌++◌, refl, ap, drop}
use Rattle.pc_tree.specs.declared.code.Code.TheVariants.{E01}
use Rattle.pc_tree.specs.declared.tree.Branch.{out-Branch}
use Rattle.pc_tree.specs.Tree.{Stmt, Branches, expr_of, stmts_of_list}
use Rattle.pc_tree.specs.Lists.{branches_of_list}
use Rattle.pc_tree.specs.Stopping.{given_in, given_in_stmt, given_in_stmts, given_in_branches}
use Rattle.pc_tree.proofs.Trees.{while_tree, for_tree, if_tree, branches_next}
use Rattle.pc_tree.proofs.Finds.{stepped, joined}
use Rattle.pc_stopping.proofs.calls.+given_in_body.Goals as goal

pub find_given_in_branches-loop-branch-preserved : goal.find_given_in_branches-loop-branch-preserved
find_given_in_branches-loop-branch-preserved t c =
    let branches = c.args.branches.now in
    let i = c.loop-branch.branch-index in
    let one = c.find_given.new.found.items in
    let condition = given_in (expr_of (out-Branch c.branch-item.result).condition) in
    let body = given_in_stmts (stmts_of_list (out-Branch c.branch-item.result).body.items) in
    let rest = given_in_branches (branches_of_list (drop (i + 1) branches)) in
    stepped E01 one c.find_given_in_body.new.found.items body rest (body ++ rest)
    (rw c.deref.ensures.value at c.in_ok-find_given_in_body.ensures) refl
    ∙ stepped E01 c.loop-branch.found.items one condition (body ++ rest)
    (given_in_branches (branches_of_list (drop i branches))) c.in_ok-find_given.ensures
    (ap (λ (bs : Branches). given_in_branches bs) (branches_next branches i c.branch-item.result
    c.loop-branch-test.true c.branch-item.is))
    ∙ c.loop-branch.invariant

pub
    find_given_in_statement-returns-in_ok-find_given-in-While : goal.find_given_in_statement-returns-in_ok-find_given-in-While
find_given_in_statement-returns-in_ok-find_given-in-While t c p =
    rw c.in-While.is (joined c.find_given_in_body.result E01 c.args.found.now.items
    c.find_given-in-While.new.found.items c.find_given_in_body.new.found.items
    (given_in (expr_of c.in-While.condition.value)) (given_in_stmts (stmts_of_list c.in-While.body.items)) _
    (rw c.deref-in-While.ensures at c.in_ok-find_given-in-While.ensures)
    (ap (λ (s : Stmt). given_in_stmt s) (while_tree p c.in-While.condition c.in-While.body))
    (rw c.deref-in-While-2.ensures.value at c.find_given_in_body.ensures))

pub
    find_given_in_statement-returns-in_ok-find_given-in-For : goal.find_given_in_statement-returns-in_ok-find_given-in-For
find_given_in_statement-returns-in_ok-find_given-in-For t c p =
    rw c.in-For.is (joined c.find_given_in_body-in-For.result E01 c.args.found.now.items
    c.find_given-in-For.new.found.items c.find_given_in_body-in-For.new.found.items
    (given_in (expr_of c.in-For.iterable.value)) (given_in_stmts (stmts_of_list c.in-For.body.items)) _
    (rw c.deref-in-For.ensures at c.in_ok-find_given-in-For.ensures)
    (ap (λ (s : Stmt). given_in_stmt s) (for_tree p c.in-For.target c.in-For.iterable c.in-For.body))
    (rw c.deref-in-For-2.ensures.value at c.find_given_in_body-in-For.ensures))

pub
    find_given_in_statement-returns-in_ok-find_given_in_branches-in-If : goal.find_given_in_statement-returns-in_ok-find_given_in_branches-in-If
find_given_in_statement-returns-in_ok-find_given_in_branches-in-If t c p =
    rw c.in-If.is (joined c.find_given_in_body-in-If.result E01 c.args.found.now.items
    c.find_given_in_branches.new.found.items c.find_given_in_body-in-If.new.found.items
    (given_in_branches (branches_of_list c.in-If.branches.items))
    (given_in_stmts (stmts_of_list c.in-If.otherwise.items)) _ (rw c.deref-in-If.ensures.value at
    c.in_ok-find_given_in_branches-in-If.ensures) (ap (λ (s : Stmt). given_in_stmt s)
    (if_tree p c.in-If.branches c.in-If.otherwise)) (rw c.deref-in-If-2.ensures.value at
    c.find_given_in_body-in-If.ensures))
