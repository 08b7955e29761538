use Rattle.std.specs.Prelude.{option_map, string_bytes}
use Rattle.std.proofs.Common.{sym, subst}
use Rattle.pc_documents.specs.Agreed.{agreed_of}
use Rattle.pc_documents.specs.Hovers.{IsToldOf}
use Rattle.pc_documents.proofs.Declaring.{said_as}
use Rattle.pc_documents.proofs.told.said_of.Goals as goal

pub returns : goal.returns
returns g c =
    let answers = g.C.Checker.answers c.args.checker.now in
    let agreed = agreed_of c.args.settings.now in
    let told = string_bytes c.in_ok-hover_text.field-0 in
    subst (λ t. IsToldOf answers (option_map string_bytes t) c.args.position agreed told) (sym c.in-Some.is)
    (said_as answers agreed c.args.position c.in_ok-found.found (string_bytes c.in_ok-said.said)
    (string_bytes c.add_declaration.new.told) told (string_bytes c.in-Some.text) c.as_str-text.result.now
    c.as_bytes-bytes.result.now c.as_str-text.ensures.value c.as_bytes-bytes.ensures.value c.in_ok-found.ensures
    c.in_ok-said.ensures c.in_ok-add_declaration.ensures c.in_ok-hover_text.ensures)
