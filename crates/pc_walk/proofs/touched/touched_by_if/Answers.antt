use Rattle.pc_flow.specs.Naming.{meanings}
use Rattle.std.proofs.Common.{◌≡◌, ◌∙◌, ◌++◌, ℕ, List, append_assoc, sym, ap, eqb}
use Rattle.std.specs.Prelude.{map, nat_eq}
use Rattle.std.proofs.lemmas.List.Elements.{filter_map-append}
use Rattle.std.proofs.lemmas.List.Filters.{dedup_is}
use Rattle.std.proofs.lemmas.List.Sorted.{list_any-IsPermutation}
use Rattle.pc_tree.specs.Tree.{Name, stmts_of_list}
use Rattle.pc_tree.specs.Lists.{branches_of_list}
use Rattle.pc_tree.specs.Stopping.{bound_by, bound_by_branches}
use Rattle.pc_scope.specs.Internal.WalkViews.{name_seen}
use Rattle.pc_flow.specs.Narrowing.{as_local}
use Rattle.pc_flow.specs.Agreement.{is_among}
use Rattle.pc_walk.specs.Touched.{numbers_of, tested_in, tested_in_branches}
use Rattle.pc_flow.proofs.Among.{among_dedup}
use Rattle.pc_walk.proofs.Among.{among_four}
use Rattle.pc_walk.proofs.touched.touched_by_if.Goals as goal

pub returns : goal.returns
returns c x =
    let resolve = meanings c.args.names.now in
    let bs = branches_of_list c.args.branches.now in
    let o = stmts_of_list c.args.otherwise.now in
    let seen : map name_seen c.add_bound.new.names.items ≡ bound_by_branches bs ++ bound_by o =
    c.in_ok-add_bound.ensures ∙ ap (λ ns. ns ++ bound_by o) (c.in_ok-add_bound_in.ensures
    ∙ ap (λ ns. map name_seen ns ++ bound_by_branches bs) c.new-bound.ensures.items) in
    let names : c.in_ok-locals.locals.items ≡ numbers_of resolve (bound_by_branches bs) ++ numbers_of resolve
    (bound_by o) = c.in_ok-locals.ensures ∙ ap (λ ns. numbers_of resolve (map name_seen ns)) c.deref.ensures.value
    ∙ ap (numbers_of resolve) seen ∙ filter_map-append (λ (n : Name). as_local (resolve n.text))
    (bound_by_branches bs) (bound_by o) in
    let all : c.add_tested_in.new.tested.items ≡ (numbers_of resolve (bound_by_branches bs) ++ numbers_of resolve
    (bound_by o)) ++ (tested_in_branches resolve bs ++ tested_in resolve o) =
    c.in_ok-add_tested_in.ensures
    ∙ ap (λ (xs : List ℕ). xs ++ tested_in resolve o) (c.in_ok-add_tested_in_branches.ensures
    ∙ ap (λ (xs : List ℕ). xs ++ tested_in_branches resolve bs) names)
    ∙ append_assoc (numbers_of resolve (bound_by_branches bs) ++ numbers_of resolve (bound_by o))
    (tested_in_branches resolve bs) (tested_in resolve o) in
    ap (λ (xs : List ℕ). is_among xs x) (dedup_is eqb c.sort_unstable.new.self.items c.dedup.new.self.items
    c.dedup.ensures.filtered)
    ∙ among_dedup x c.sort_unstable.new.self.items
    ∙ sym (list_any-IsPermutation (nat_eq x) c.add_tested_in.new.tested.items c.sort_unstable.new.self.items
    c.sort_unstable.ensures.permutation)
    ∙ ap (λ (xs : List ℕ). is_among xs x) all
    ∙ among_four x (numbers_of resolve (bound_by_branches bs)) (numbers_of resolve (bound_by o))
    (tested_in_branches resolve bs) (tested_in resolve o)
