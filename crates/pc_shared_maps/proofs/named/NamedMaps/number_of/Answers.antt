use Rattle.std.proofs.Common.{◌≡◌, ◌<◌, ◌∙◌, Some, map, length, slice_get, sym, ap, arith}
use Rattle.std.specs.Prelude.{string_bytes}
use Rattle.std.proofs.lemmas.Option.{slice_get-get_or}
use Rattle.pc_scope.specs.Resolution.{index_of}
use Rattle.pc_scope.proofs.TextSets.{placed}
use Rattle.pc_shared_maps.specs.NameMaps.{NameMaps}
use Rattle.pc_shared_maps.proofs.Naming.{number_once}
use Rattle.pc_shared_maps.proofs.named.NamedMaps.number_of.Goals as goal

pub returns-then-is_same_text : goal.returns-then-is_same_text
returns-then-is_same_text c =
    let keys = c.self.inside.texts.keys in
    let name = c.args.name.now in
    let last = c.get-last.result in
    let text = c.index-texts-last.result in
    let slice = c.as_slice-texts.result.now in
    let within : last < length slice = omega (arith, c.if-last-texts.true) in
    let read = slice_get-get_or slice last text within in
    let at : slice_get keys last ≡ Some text = cc (read, c.as_slice-texts.ensures.keys, c.index-texts-last.is) in
    let same : name ≡ string_bytes text = c.is_same_text.ensures.0 c.if-is_same_text.true ∙ c.as_str.ensures.value in
    sym (ap (λ t. index_of t (map string_bytes keys)) same
    ∙ number_once string_bytes keys last text c.as_slice-texts.ensures.unique at)
    ∙ ap (λ (x : NameMaps). index_of name x.texts) c.self.view_is

pub returns-in_err-number : goal.returns-in_err-number
returns-in_err-number c =
    c.from_residual.ensures
    ∙ c.in_err-number.ensures.index ∙ placed string_bytes c.args.name.now c.self.inside.texts.keys
    ∙ ap (λ (x : NameMaps). index_of c.args.name.now x.texts) c.self.view_is

pub returns : goal.returns
returns c =
    c.in_ok-number.ensures.index ∙ placed string_bytes c.args.name.now c.self.inside.texts.keys
    ∙ ap (λ (x : NameMaps). index_of c.args.name.now x.texts) c.self.view_is
