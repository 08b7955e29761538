use Rattle.std.proofs.Common.{◌≡◌, ◌++◌, map, append_assoc, ap, ◌∙◌, sym, subst, arith, drop, List, ◌+◌}
use Rattle.std.specs.Prelude.{OnOk}
use Rattle.pc_tree.specs.Suites.{own_names, branches_of_stmt, last_suite}
use Rattle.pc_tree.specs.Tree.{stmts_of_list, stmt_of_kind, Name, Stmts, Branches}
use Rattle.pc_tree.specs.declared.tree.Branch.{out-Branch}
use Rattle.pc_tree.specs.Lists.{branches_of_list}
use Rattle.pc_tree.specs.Stopping.{bound_by, bound_by_branches}
use Rattle.pc_tree.proofs.SuitesIn.{bound_parts, gathered}
use Rattle.pc_tree.proofs.Trees.{branches_next}
use Rattle.pc_tree.specs.Lists.{name_seen}
use Rattle.pc_tree.proofs.bound.+bound.Goals as goal

pub add_bound_in-loop-branch-preserved : goal.add_bound_in-loop-branch-preserved
add_bound_in-loop-branch-preserved t c =
    let body = bound_by (stmts_of_list (out-Branch c.branch-item.result).body.items) in
    let rest = bound_by_branches (branches_of_list (drop (c.loop-branch.branch-index + 1) c.args.branches.now)) in
    let front = map name_seen c.loop-branch.names.items in
    ap (λ (ns : List Name). ns ++ rest) (rw c.deref.ensures.value at c.in_ok-add_bound.ensures)
    ∙ append_assoc front body rest ∙ ap (λ (b : Branches). front ++ bound_by_branches b)
    (sym (branches_next c.args.branches.now c.loop-branch.branch-index c.branch-item.result (omega arith)
    c.branch-item.is)) ∙ c.loop-branch.invariant

pub add_bound_by-returns : goal.add_bound_by-returns
add_bound_by-returns t c p =
    let s = stmt_of_kind p c.args.kind.now in
    let before = map name_seen c.args.names.now.items in
    let first = map name_seen c.add_own.new.names.items in
    let second = map name_seen c.add_bound_in.new.names.items in
    let own = c.in_ok-add_own.ensures ∙ ap (λ (ns : List Name). before ++ ns) (c.own_name.ensures p) in
    let conditions = c.in_ok-add_bound_in.ensures
    ∙ ap (λ (bs : Branches). first ++ bound_by_branches bs) (c.suites.ensures.branches p) in
    let e = ap (λ (ss : Stmts). second ++ bound_by ss) (c.suites.ensures.last p)
    ∙ gathered before (own_names s) (bound_by_branches (branches_of_stmt s)) (bound_by (last_suite s)) first second own
    conditions ∙ ap (λ (ns : List Name). before ++ ns) (sym (bound_parts s)) in
    subst (λ (ns : List Name). OnOk c.add_bound.result (map name_seen c.add_bound.new.names.items ≡ ns)) e
    c.add_bound.ensures
