use Rattle.std.proofs.Common.{◌≡◌, ◌++◌, map, append_assoc, ap, ◌∙◌, sym, subst, arith, drop, List, ◌+◌}
use Rattle.std.specs.Prelude.{OnOk}
use Rattle.pc_tree.specs.Suites.{own_names, branches_of_stmt, last_suite}
use Rattle.pc_tree.specs.Tree.{stmts_of_list, stmt_of_kind, Name, Stmts, Branches}
use Rattle.pc_tree.specs.declared.tree.Branch.{out-Branch}
use Rattle.pc_machine.specs.State.{Local}
use Rattle.pc_machine.specs.Names.{unbound, names_bound, names_bound_in}
use Rattle.pc_machine.specs.Machine.{local_of as local_seen}
use Rattle.pc_tree.specs.Lists.{branches_of_list}
use Rattle.pc_machine.proofs.Lists.{map_both}
use Rattle.pc_machine.proofs.NamesBound.{unbound_name, names_parts}
use Rattle.pc_tree.proofs.SuitesIn.{gathered}
use Rattle.pc_tree.proofs.Trees.{branches_next}
use Rattle.pc_machine.proofs.names.+names.Goals as goal

pub add_names_of-returns : goal.add_names_of-returns
add_names_of-returns t c p =
    let s = stmt_of_kind p c.args.kind.now in
    let before : List Local = map local_seen c.args.frame.now.items in
    let first : List Local = map local_seen c.add_own.new.frame.items in
    let second : List Local = map local_seen c.add_names_in.new.frame.items in
    let own = c.in_ok-add_own.ensures
    ∙ ap (λ (ns : List Name). before ++ map unbound_name ns) (c.own_name.ensures p) in
    let conditions = c.in_ok-add_names_in.ensures
    ∙ ap (λ (bs : Branches). first ++ map unbound (names_bound_in bs)) (c.suites.ensures.branches p) in
    let e = ap (λ (ss : Stmts). second ++ map unbound (names_bound ss)) (c.suites.ensures.last p)
    ∙ gathered before (map unbound_name (own_names s)) (map unbound (names_bound_in (branches_of_stmt s)))
    (map unbound (names_bound (last_suite s))) first second own conditions
    ∙ ap (λ (ls : List Local). before ++ ls) (sym (names_parts s)) in
    subst (λ (ls : List Local). OnOk c.add_names.result (map local_seen c.add_names.new.frame.items ≡ ls)) e
    c.add_names.ensures

pub add_names_in-loop-branch-preserved : goal.add_names_in-loop-branch-preserved
add_names_in-loop-branch-preserved t c =
    let body = names_bound (stmts_of_list (out-Branch c.branch-item.result).body.items) in
    let rest = names_bound_in (branches_of_list (drop (c.loop-branch.branch-index + 1) c.args.branches.now)) in
    let front : List Local = map local_seen c.loop-branch.frame.items in
    ap (λ (ls : List Local). ls ++ map unbound rest) (rw c.deref.ensures.value at c.in_ok-add_names.ensures)
    ∙ append_assoc front (map unbound body) (map unbound rest)
    ∙ ap (λ (ls : List Local). front ++ ls) (sym (map_both unbound body rest))
    ∙ ap (λ (b : Branches). front ++ map unbound (names_bound_in b))
    (sym (branches_next c.args.branches.now c.loop-branch.branch-index c.branch-item.result (omega arith)
    c.branch-item.is)) ∙ c.loop-branch.invariant
