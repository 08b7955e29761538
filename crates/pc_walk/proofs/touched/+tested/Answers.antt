use Rattle.pc_flow.specs.Naming.{meanings}
use Rattle.std.proofs.Common.{◌≡◌, ◌∙◌, ◌++◌, ◌+◌, ℕ, List, append_assoc, sym, ap, subst, drop, arith, rules}
use Rattle.std.specs.Prelude.{OnOk}
use Rattle.pc_tree.specs.Tree.{Stmt, Branches, while_loop, stmts_of_list, expr_of}
use Rattle.pc_tree.specs.Lists.{branches_of_list}
use Rattle.pc_tree.specs.declared.tree.Branch.{out-Branch}
use Rattle.pc_tree.specs.declared.tree.StmtKind.TheFolds.{the_lemmas}
use Rattle.pc_tree.proofs.Trees.{while_tree, for_tree, if_tree, branches_next}
use Rattle.pc_flow.specs.Narrowing.{tested_locals}
use Rattle.pc_walk.specs.Touched.{tested_in, tested_in_stmt, tested_in_branches}
use Rattle.pc_walk.proofs.touched.+tested.Goals as goal

pub add_tested_by-add_tested_in_branches-requires : goal.add_tested_by-add_tested_in_branches-requires
add_tested_by-add_tested_in_branches-requires t c = first_of (search (rules, the_lemmas), grind (the_lemmas, arith))

pub add_tested_by-add_tested_in-requires-in-If : goal.add_tested_by-add_tested_in-requires-in-If
add_tested_by-add_tested_in-requires-in-If t c = first_of (search (rules, the_lemmas), grind (the_lemmas, arith))

pub add_tested_by-returns-in_ok-add_tested-in-While : goal.add_tested_by-returns-in_ok-add_tested-in-While
add_tested_by-returns-in_ok-add_tested-in-While t c p =
    let resolve = meanings c.args.names.now in
    let condition = expr_of c.deref-in-While.result.now in
    let body = stmts_of_list c.in-While.body.items in
    let first = tested_locals resolve condition in
    let second = tested_in resolve body in
    let e = ap (λ (xs : List ℕ). xs ++ second) c.in_ok-add_tested-in-While.ensures
    ∙ append_assoc c.args.tested.now.items first second in
    rw c.in-While.is (subst (λ (s : Stmt). OnOk c.add_tested_in.result
    (c.add_tested_in.new.tested.items ≡ c.args.tested.now.items ++ tested_in_stmt resolve s))
    (ap (λ c. while_loop p (expr_of c) body) c.deref-in-While.ensures
    ∙ sym (while_tree p c.in-While.condition c.in-While.body))
    (subst (λ (xs : List ℕ). OnOk c.add_tested_in.result (c.add_tested_in.new.tested.items ≡ xs)) e
    (rw c.deref-in-While-2.ensures.value at c.add_tested_in.ensures)))

pub add_tested_by-returns-in-For : goal.add_tested_by-returns-in-For
add_tested_by-returns-in-For t c p =
    let resolve = meanings c.args.names.now in
    rw c.in-For.is (subst (λ (s : Stmt). OnOk c.add_tested_in-in-For.result
    (c.add_tested_in-in-For.new.tested.items ≡ c.args.tested.now.items ++ tested_in_stmt resolve s))
    (sym (for_tree p c.in-For.target c.in-For.iterable c.in-For.body))
    (rw c.deref-in-For.ensures.value at c.add_tested_in-in-For.ensures))

pub add_tested_by-returns-in_ok-add_tested_in_branches-in-If :
    goal.add_tested_by-returns-in_ok-add_tested_in_branches-in-If
add_tested_by-returns-in_ok-add_tested_in_branches-in-If t c p =
    let resolve = meanings c.args.names.now in
    let first = tested_in_branches resolve (branches_of_list c.in-If.branches.items) in
    let second = tested_in resolve (stmts_of_list c.in-If.otherwise.items) in
    let e = ap (λ (xs : List ℕ). xs ++ second) (rw c.deref-in-If.ensures.value at
    c.in_ok-add_tested_in_branches-in-If.ensures) ∙ append_assoc c.args.tested.now.items first second in
    rw c.in-If.is (subst (λ (s : Stmt). OnOk c.add_tested_in-in-If.result
    (c.add_tested_in-in-If.new.tested.items ≡ c.args.tested.now.items ++ tested_in_stmt resolve s))
    (sym (if_tree p c.in-If.branches c.in-If.otherwise))
    (subst (λ (xs : List ℕ). OnOk c.add_tested_in-in-If.result (c.add_tested_in-in-If.new.tested.items ≡ xs)) e
    (rw c.deref-in-If-2.ensures.value at c.add_tested_in-in-If.ensures)))

pub add_tested_in_branches-loop-branch-preserved : goal.add_tested_in_branches-loop-branch-preserved
add_tested_in_branches-loop-branch-preserved t c =
    let resolve = meanings c.args.names.now in
    let before = c.loop-branch.tested.items in
    let tests = tested_locals resolve (expr_of (out-Branch c.branch-item.result).condition) in
    let body = tested_in resolve (stmts_of_list (out-Branch c.branch-item.result).body.items) in
    let rest = tested_in_branches resolve
    (branches_of_list (drop (c.loop-branch.branch-index + 1) c.args.branches.now)) in
    ap (λ (xs : List ℕ). xs ++ rest) (rw c.deref.ensures.value at c.in_ok-add_tested_in.ensures)
    ∙ ap (λ (xs : List ℕ). (xs ++ body) ++ rest) c.in_ok-add_tested.ensures
    ∙ append_assoc (before ++ tests) body rest
    ∙ append_assoc before tests (body ++ rest)
    ∙ ap (λ (b : Branches). before ++ tested_in_branches resolve b)
    (sym (branches_next c.args.branches.now c.loop-branch.branch-index c.branch-item.result (omega arith)
    c.branch-item.is))
    ∙ c.loop-branch.invariant
