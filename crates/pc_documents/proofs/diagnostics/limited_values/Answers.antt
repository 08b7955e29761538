use Rattle.std.proofs.Common.{◌≡◌, ◌-◌, ◌<◌, ◌∷◌, [], ◌++◌, length, map, take, rules, arith, ap, ap₂, sym, ◌∙◌}
use Rattle.std.proofs.lemmas.List.{map-append}
use Rattle.serde_json.specs.View.{view}
use Rattle.pc_documents.specs.Agreed.{agreed_of}
use Rattle.pc_documents.specs.Diagnostics.{item_data, more_data}
use Rattle.pc_documents.proofs.Limits.{beyond}
use Rattle.pc_documents.proofs.diagnostics.limited_values.Goals as goal

pub returns : goal.returns
returns c =
    let agreed = agreed_of c.args.settings.now in
    let text = c.args.text.now in
    let uri = c.args.uri.now in
    let items = c.args.items.now in
    let values = c.in_ok-values.values.items in
    let more = c.in_ok-more.field-0 in
    let many : 1000 < length items = omega arith in
    let pushed : c.push.new.self.items ≡ values ++ more ∷ [] = search rules in
    let first : map view values ≡ map (item_data agreed text uri) (take 999 items) = search rules in
    let last : view more ≡ more_data (length items - 999) = search rules in
    ap (map view) pushed ∙ (map-append view values (more ∷ [])
    ∙ (ap₂ (λ front d. front ++ d ∷ []) first last ∙ sym (beyond agreed text uri items many)))
