use Rattle.std.proofs.Common.{◌∷◌, [], sym, ◌∙◌, true≢false}
use Rattle.pc_intern.specs.Store.{tree_of_type}
use Rattle.pc_intern.proofs.Held.{two_numbers}
use Rattle.pc_intern.proofs.Kept.{two_kept_is}
use Rattle.pc_intern.proofs.store.InternStore.kept_pair.Goals as goal

pub returns-clause-value : goal.returns-clause-value
returns-clause-value c =
    let e = c.in_ok-kept.ensures.value (tree_of_type c.args.s.now ∷ tree_of_type c.args.t.now ∷ [])
    (two_numbers c.args.self.now c.args.types.now.items c.args.s.now c.args.t.now c.requires.types c.requires.left
    c.requires.right) in
    two_kept_is c.args.parents.now (tree_of_type c.args.s.now) (tree_of_type c.args.t.now) (tree_of_type c.in_ok-kept.kept)
    c.requires.left.small e (λ o. true≢false (sym (c.is_object.ensures o) ∙ c.if-is_object.false))
