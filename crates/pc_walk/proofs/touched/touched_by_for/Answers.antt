use Rattle.pc_flow.specs.Naming.{meanings}
use Rattle.std.proofs.Common.{◌≡◌, ◌∙◌, ◌∷◌, ◌++◌, [], ℕ, List, sym, ap, eqb}
use Rattle.std.specs.Prelude.{map, nat_eq}
use Rattle.std.proofs.lemmas.List.Filters.{dedup_is}
use Rattle.std.proofs.lemmas.List.Sorted.{list_any-IsPermutation}
use Rattle.pc_tree.specs.Tree.{name_of, stmts_of_list}
use Rattle.pc_tree.specs.Stopping.{bound_by}
use Rattle.pc_scope.specs.Internal.WalkViews.{name_seen}
use Rattle.pc_flow.specs.Agreement.{is_among}
use Rattle.pc_walk.specs.Touched.{numbers_of, tested_in}
use Rattle.pc_flow.proofs.Among.{among_dedup}
use Rattle.pc_walk.proofs.touched.touched_by_for.Goals as goal

pub returns : goal.returns
returns c x =
    let resolve = meanings c.args.names.now in
    let b = stmts_of_list c.args.body.now in
    let target = name_of c.args.target.now in
    let seen : map name_seen c.add_bound.new.names.items ≡ target ∷ bound_by b = c.in_ok-add_bound.ensures
    ∙ ap (λ ns. ns ++ bound_by b) (ap (map name_seen) c.in_ok-push.ensures.items
    ∙ ap (λ ns. map name_seen (ns ++ (c.args.target ∷ []))) c.new-bound.ensures.items) in
    let names : c.in_ok-locals.locals.items ≡ numbers_of resolve (target ∷ bound_by b) = c.in_ok-locals.ensures
    ∙ ap (λ ns. numbers_of resolve (map name_seen ns)) c.deref.ensures.value ∙ ap (numbers_of resolve) seen in
    let all : c.add_tested_in.new.tested.items ≡ numbers_of resolve (target ∷ bound_by b) ++ tested_in resolve b =
    c.in_ok-add_tested_in.ensures ∙ ap (λ (xs : List ℕ). xs ++ tested_in resolve b) names in
    ap (λ (xs : List ℕ). is_among xs x) (dedup_is eqb c.sort_unstable.new.self.items c.dedup.new.self.items
    c.dedup.ensures.filtered)
    ∙ among_dedup x c.sort_unstable.new.self.items
    ∙ sym (list_any-IsPermutation (nat_eq x) c.add_tested_in.new.tested.items c.sort_unstable.new.self.items
    c.sort_unstable.ensures.permutation)
    ∙ ap (λ (xs : List ℕ). is_among xs x) all
