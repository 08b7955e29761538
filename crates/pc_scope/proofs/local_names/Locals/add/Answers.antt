use Rattle.std.proofs.Common.{◌∙◌, sym, ap, map, refl, ◌++◌, ◌∷◌, []}
use Rattle.std.specs.Prelude.{string_bytes, bytes_eq}
use Rattle.std.specs.List.{list_any}
use Rattle.pc_scope.specs.declared.local_names.Locals.{Locals}
use Rattle.pc_scope.specs.Resolution.{is_one_of}
use Rattle.pc_scope.specs.Internal.WalkViews.{locals_in}
use Rattle.pc_scope.proofs.TextSets.{among, put}
use Rattle.pc_scope.proofs.local_names.Locals.add.Goals as goal

pub returns-in_ok-insert-in-Many : goal.returns-in_ok-insert-in-Many
returns-in_ok-insert-in-Many c =
    let keys = c.in-Many.texts.keys in
    let s = c.in_ok-from_str-in-Many.field-0 in
    let name = c.args.name.now in
    let text = c.in_ok-from_str-in-Many.ensures.ok in
    let absent = among string_bytes name keys
    ∙ ap (λ (l : Locals). is_one_of name (locals_in l)) (sym c.in-Many.is) ∙ c.requires in
    ap (map string_bytes) c.in_ok-insert-in-Many.ensures.keys
    ∙ put string_bytes keys s (list_any (λ k. bytes_eq (string_bytes s) (string_bytes k)) keys) refl
    (ap (λ t. list_any (λ k. bytes_eq t (string_bytes k)) keys) text ∙ absent)
    ∙ ap (λ t. map string_bytes keys ++ (t ∷ [])) text
    ∙ ap (λ (l : Locals). locals_in l ++ (name ∷ [])) (sym c.in-Many.is)
