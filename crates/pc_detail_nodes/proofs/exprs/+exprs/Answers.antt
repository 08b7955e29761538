use Rattle.std.proofs.Common.{◌≡◌, ◌∙◌, ◌++◌, ◌∷◌, [], ◌+◌, List, map, drop, sym, ap, arith, false}
use Rattle.std.proofs.lemmas.List.{map-append}
use Rattle.pc_tree.specs.Lists.{branches_of_list}
use Rattle.pc_tree.specs.Tree.{Branches, expr_of, stmts_of_list}
use Rattle.pc_tree.specs.declared.tree.Branch.{out-Branch}
use Rattle.pc_tree.proofs.Trees.{branches_next}
use Rattle.pc_scope.specs.Expressions.{exprs_in_all, exprs_in_branches}
use Rattle.pc_detail_nodes.specs.NodesHeld.{expr_lent}
use Rattle.pc_detail_nodes.proofs.WalkedLists.{then_two}
use Rattle.pc_detail_nodes.proofs.exprs.+exprs.Goals as goal

pub add_branches-loop-branch-preserved : goal.add_branches-loop-branch-preserved
add_branches-loop-branch-preserved t c =
    let branch = c.branch-item.result in
    let condition = expr_of (out-Branch branch).condition in
    let body = exprs_in_all false (stmts_of_list (out-Branch branch).body.items) in
    let rest = exprs_in_branches false (branches_of_list (drop (c.loop-branch.branch-index + 1) c.args.branches.now)) in
    let front = c.loop-branch.exprs.items in
    let pushed : map expr_lent c.push.new.self.items ≡ map expr_lent front ++ condition ∷ [] =
    ap (map expr_lent) c.in_ok-push.ensures.items ∙ map-append expr_lent front _ in
    then_two (map expr_lent front) (map expr_lent c.push.new.self.items) (map expr_lent c.add_suite.new.exprs.items)
    (condition ∷ []) body rest pushed (rw c.deref.ensures.value at c.in_ok-add_suite.ensures)
    ∙ ap (λ (b : Branches). map expr_lent front ++ exprs_in_branches false b)
    (sym (branches_next c.args.branches.now c.loop-branch.branch-index branch (omega arith) c.branch-item.is))
    ∙ c.loop-branch.invariant
