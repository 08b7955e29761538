use Rattle.std.proofs.Common.{◌≡◌, ◌++◌, ap, ◌∙◌, sym, subst, arith, drop, List, ◌+◌}
use Rattle.std.specs.Prelude.{OnOk}
use Rattle.pc_tree.specs.declared.code.Code.TheVariants.{E05}
use Rattle.pc_tree.specs.declared.code.Finding.{Finding}
use Rattle.pc_tree.specs.declared.tree.Branch.{out-Branch}
use Rattle.pc_tree.specs.Tree.{stmts_of_list, stmt_of, Stmt, Stmts, Branches}
use Rattle.pc_tree.specs.Lists.{branches_of_list}
use Rattle.pc_tree.specs.Stopping.{loose_in, loose_in_stmt, loose_in_branches}
use Rattle.pc_tree.proofs.Trees.{if_tree, branches_next, stmts_next}
use Rattle.pc_tree.specs.Code.{at_code}
use Rattle.pc_tree.proofs.Joints.{joined}
use Rattle.pc_stopping.proofs.loops.+loose.Goals as goal

pub find_loose-loop-statement-preserved : goal.find_loose-loop-statement-preserved
find_loose-loop-statement-preserved t c =
    let first = loose_in_stmt (stmt_of c.statement-item.result) in
    let rest = loose_in (stmts_of_list (drop (c.loop-statement.statement-index + 1) c.args.body.now)) in
    let front = c.loop-statement.found.items in
    ap (λ (fs : List Finding). fs ++ at_code E05 rest) c.in_ok-find_loose_by.ensures ∙ joined E05 front first rest
    ∙ ap (λ (b : Stmts). front ++ at_code E05 (loose_in b))
    (sym (stmts_next c.args.body.now c.loop-statement.statement-index c.statement-item.result (omega arith)
    c.statement-item.is)) ∙ c.loop-statement.invariant

pub find_loose_in-loop-branch-preserved : goal.find_loose_in-loop-branch-preserved
find_loose_in-loop-branch-preserved t c =
    let body = loose_in (stmts_of_list (out-Branch c.branch-item.result).body.items) in
    let rest = loose_in_branches (branches_of_list (drop (c.loop-branch.branch-index + 1) c.args.branches.now)) in
    let front = c.loop-branch.found.items in
    ap (λ (fs : List Finding). fs ++ at_code E05 rest) (rw c.deref.ensures.value at c.in_ok-find_loose.ensures)
    ∙ joined E05 front body rest ∙ ap (λ (b : Branches). front ++ at_code E05 (loose_in_branches b))
    (sym (branches_next c.args.branches.now c.loop-branch.branch-index c.branch-item.result (omega arith)
    c.branch-item.is)) ∙ c.loop-branch.invariant

pub find_loose_by-returns-in_ok-find_loose_in-in-If : goal.find_loose_by-returns-in_ok-find_loose_in-in-If
find_loose_by-returns-in_ok-find_loose_in-in-If t c =
    let first = loose_in_branches (branches_of_list c.in-If.branches.items) in
    let second = loose_in (stmts_of_list c.in-If.otherwise.items) in
    let e = ap (λ (fs : List Finding). fs ++ at_code E05 second)
    (rw c.deref.ensures.value at c.in_ok-find_loose_in-in-If.ensures) ∙ joined E05 c.args.found.now.items first
    second in
    rw c.in-If.is (subst (λ (s : Stmt). OnOk c.find_loose.result (c.find_loose.new.found.items ≡ c.args.found.now.items
    ++ at_code E05 (loose_in_stmt s))) (sym (if_tree c.args.first c.in-If.branches c.in-If.otherwise))
    (subst (λ (fs : List Finding). OnOk c.find_loose.result (c.find_loose.new.found.items ≡ fs)) e
    (rw c.deref-in-If.ensures.value at c.find_loose.ensures)))
