use Rattle.pc_flow.specs.Naming.{meanings}
use Rattle.std.proofs.Common.{◌≡◌, ◌∙◌, ◌++◌, ℕ, List, append_assoc, ap, subst}
use Rattle.std.specs.Prelude.{OnOk, map}
use Rattle.pc_tree.specs.Tree.{stmt_of_kind}
use Rattle.pc_tree.specs.Stopping.{bound_by_stmt}
use Rattle.pc_scope.specs.Internal.WalkViews.{name_seen}
use Rattle.pc_walk.specs.Touched.{numbers_of, tested_in_stmt}
use Rattle.pc_walk.proofs.touched.add_touched.Goals as goal

pub returns : goal.returns
returns c = λ p.
    let resolve = meanings c.args.names.now in
    let s = stmt_of_kind p c.args.kind.now in
    let before = c.args.touched.now.items in
    let bound = numbers_of resolve (bound_by_stmt s) in
    let tested = tested_in_stmt resolve s in
    let names : c.in_ok-locals.locals.items ≡ bound = c.in_ok-locals.ensures
    ∙ ap (λ ns. numbers_of resolve (map name_seen ns)) c.deref.ensures.value
    ∙ ap (numbers_of resolve) (c.in_ok-add_bound_by.ensures p
    ∙ ap (λ ns. map name_seen ns ++ bound_by_stmt s) c.new-bound.ensures.items) in
    let all = c.in_ok-extend_from_slice.ensures.items
    ∙ ap (λ (xs : List ℕ). before ++ xs) (c.deref-2.ensures.value ∙ names) in
    let e = ap (λ (xs : List ℕ). xs ++ tested) all ∙ append_assoc before bound tested in
    subst (λ (xs : List ℕ). OnOk c.add_tested_by.result (c.add_tested_by.new.tested.items ≡ xs)) e
    (c.add_tested_by.ensures p)
