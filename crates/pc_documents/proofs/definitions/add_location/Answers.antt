use Rattle.std.proofs.Common.{◌++◌, ◌∷◌, [], map, ap, sym, ◌∙◌, option_map}
use Rattle.std.proofs.lemmas.List.{map-append}
use Rattle.serde_json.specs.View.{view}
use Rattle.pc_tree.specs.Lists.{name_seen}
use Rattle.pc_documents.specs.Definitions.{located}
use Rattle.pc_documents.proofs.definitions.add_location.Goals as goal

pub returns-in_ok-push-in-Some : goal.returns-in_ok-push-in-Some
returns-in_ok-push-in-Some c =
    let front = map view c.args.values.now.items in
    ap (map view) c.in_ok-push-in-Some.ensures.items
    ∙ (map-append view c.args.values.now.items (c.in_ok-location-in-Some.field-0 ∷ [])
    ∙ (ap (λ d. front ++ d ∷ []) c.in_ok-location-in-Some.ensures
    ∙ ap (λ n. front ++ located c.args.encoding c.args.text.now c.args.uri.now (option_map name_seen n))
    (sym c.in-Some.is)))
