use Rattle.std.proofs.Common.{◌∙◌, ◌++◌, ◌∷◌, [], sym, ap, map, refl}
use Rattle.std.specs.Prelude.{string_bytes, bytes_eq}
use Rattle.std.specs.List.{list_any}
use Rattle.pc_scope.proofs.TextSets.{among, put}
use Rattle.pc_callables.proofs.NamesBound.{bound_again, bound_anew}
use Rattle.pc_callables.proofs.bound.bind.Goals as goal

pub returns-else-not-contains : goal.returns-else-not-contains
returns-else-not-contains c =
    let keys = c.args.bound.now.keys in
    let name = c.args.name.now in
    bound_again name (map string_bytes keys) (sym (among string_bytes name keys) ∙ sym c.contains.ensures
    ∙ c.if-not-contains.false)

pub returns-in_ok-insert : goal.returns-in_ok-insert
returns-in_ok-insert c =
    let keys = c.args.bound.now.keys in
    let name = c.args.name.now in
    let s = c.in_ok-from_str.field-0 in
    let absent = sym c.contains.ensures ∙ c.if-not-contains.true in
    bound_anew name (map string_bytes keys) _ (sym (among string_bytes name keys) ∙ absent)
    (ap (map string_bytes) c.in_ok-insert.ensures.keys
    ∙ put string_bytes keys s (list_any (λ k. bytes_eq (string_bytes s) (string_bytes k)) keys) refl
    (ap (λ t. list_any (λ k. bytes_eq t (string_bytes k)) keys) c.in_ok-from_str.ensures.ok ∙ absent)
    ∙ ap (λ t. map string_bytes keys ++ (t ∷ [])) c.in_ok-from_str.ensures.ok)
