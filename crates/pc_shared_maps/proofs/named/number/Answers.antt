use Rattle.std.proofs.Common.{◌∙◌, ◌++◌, ◌∷◌, [], sym, ap, map, refl}
use Rattle.std.specs.Prelude.{string_bytes, bytes_eq, Some}
use Rattle.std.specs.List.{list_any}
use Rattle.pc_scope.specs.Resolution.{index_of}
use Rattle.pc_scope.proofs.TextSets.{among, placed, put}
use Rattle.pc_shared_maps.proofs.Naming.{with_present, with_absent, next_number, map_length}
use Rattle.pc_shared_maps.proofs.named.number.Goals as goal

pub returns-in-Some-clause-number : goal.returns-in-Some-clause-number
returns-in-Some-clause-number c = sym (c.in-Some.ensures.index
    ∙ placed string_bytes c.args.name.now c.args.texts.now.keys)

pub returns-in-Some-clause-texts : goal.returns-in-Some-clause-texts
returns-in-Some-clause-texts c = with_present c.args.name.now (map string_bytes c.args.texts.now.keys) c.in-Some.number
    (returns-in-Some-clause-number c)

pub returns-in_ok-insert-in-None-clause-texts : goal.returns-in_ok-insert-in-None-clause-texts
returns-in_ok-insert-in-None-clause-texts c =
    let keys = c.args.texts.now.keys in
    let s = c.in_ok-from_str-in-None.field-0 in
    let name = c.args.name.now in
    let absent = sym c.in-None.ensures.found in
    ap (map string_bytes) c.in_ok-insert-in-None.ensures.keys
    ∙ put string_bytes keys s (list_any (λ k. bytes_eq (string_bytes s) (string_bytes k)) keys) refl
    (ap (λ t. list_any (λ k. bytes_eq t (string_bytes k)) keys) c.in_ok-from_str-in-None.ensures.ok ∙ absent)
    ∙ ap (λ t. map string_bytes keys ++ (t ∷ [])) c.in_ok-from_str-in-None.ensures.ok
    ∙ with_absent name (map string_bytes keys) (sym (among string_bytes name keys) ∙ absent)

pub returns-in_ok-insert-in-None-clause-number : goal.returns-in_ok-insert-in-None-clause-number
returns-in_ok-insert-in-None-clause-number c =
    let keys = c.args.texts.now.keys in
    let name = c.args.name.now in
    let absent = sym (among string_bytes name keys) ∙ sym c.in-None.ensures.found in
    ap (index_of name) (returns-in_ok-insert-in-None-clause-texts c
    ∙ sym (with_absent name (map string_bytes keys) absent))
    ∙ next_number name (map string_bytes keys) absent
    ∙ ap Some (map_length string_bytes keys ∙ sym c.len-number.ensures.len)
