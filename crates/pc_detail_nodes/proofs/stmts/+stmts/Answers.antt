use Rattle.std.proofs.Common.{◌≡◌, ◌∙◌, ◌++◌, ◌+◌, List, map, drop, sym, ap, arith, append_assoc}
use Rattle.pc_tree.specs.Lists.{branches_of_list}
use Rattle.pc_tree.specs.Tree.{Branches, Stmt, stmts_of_list}
use Rattle.pc_tree.specs.declared.tree.Branch.{out-Branch}
use Rattle.pc_tree.proofs.Trees.{branches_next}
use Rattle.pc_detail_rules.specs.Nodes.{stmts_in_branches, stmts_in_suite}
use Rattle.pc_detail_facts.specs.Held.{stmt_lent}
use Rattle.pc_detail_nodes.proofs.stmts.+stmts.Goals as goal

pub add_branches-loop-branch-preserved : goal.add_branches-loop-branch-preserved
add_branches-loop-branch-preserved t c =
    let body = stmts_in_suite (stmts_of_list (out-Branch c.branch-item.result).body.items) in
    let rest = stmts_in_branches (branches_of_list (drop (c.loop-branch.branch-index + 1) c.args.branches.now)) in
    let front = map stmt_lent c.loop-branch.stmts.items in
    ap (λ (ss : List Stmt). ss ++ rest) (rw c.deref.ensures.value at c.in_ok-add_stmts.ensures)
    ∙ append_assoc front body rest ∙ ap (λ (b : Branches). front ++ stmts_in_branches b)
    (sym (branches_next c.args.branches.now c.loop-branch.branch-index c.branch-item.result (omega arith)
    c.branch-item.is)) ∙ c.loop-branch.invariant
