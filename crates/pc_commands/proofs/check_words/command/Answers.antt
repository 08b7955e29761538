-- The data of the command, by what each builder says.
use Rattle.std.proofs.Common.{◌≡◌, ◌∙◌, rules, ap₂, codes, true, []}
use Rattle.std.proofs.lemmas.Result.{IfOk-weaker}
use Rattle.clap.specs.Words.{App, app_of, with_rule}
use Rattle.clap.specs.Simple.{new_shape}
use Rattle.pc_commands.specs.CheckWords.{details_rule, format_rule, json_rule, types_rule}
use Rattle.pc_commands.proofs.check_words.command.Goals as goal

abbrev bare : App
bare = record { top = record (new_shape (codes "pycheck")) { no_binary_name = true; has_version = true }; subs = [] }

pub returns : goal.returns
returns c =
    let bare_is : app_of c.no_binary_name.result ≡ bare = search rules in
    let with_json : app_of c.in_ok-arg.field-0 ≡ with_rule bare json_rule =
    c.in_ok-arg.ensures.shape c.json_argument.ensures.local ∙ ap₂ with_rule bare_is c.json_argument.ensures.rule in
    let with_types : app_of c.in_ok-arg-2.field-0 ≡ with_rule (with_rule bare json_rule) types_rule =
    c.in_ok-arg-2.ensures.shape c.types_argument.ensures.local
    ∙ ap₂ with_rule with_json c.types_argument.ensures.rule in
    let with_details : app_of c.in_ok-arg-3.field-0 ≡ with_rule (with_rule (with_rule bare json_rule) types_rule)
    details_rule = c.in_ok-arg-3.ensures.shape c.details_argument.ensures.local
    ∙ ap₂ with_rule with_types c.details_argument.ensures.rule in
    let with_format : app_of c.in_ok-arg-4.field-0
    ≡ with_rule (with_rule (with_rule (with_rule bare json_rule) types_rule) details_rule) format_rule =
    c.in_ok-arg-4.ensures.shape c.format_argument.ensures.local
    ∙ ap₂ with_rule with_details c.format_argument.ensures.rule in
    IfOk-weaker c.arg-5.result _ _ (λ r h. h.shape c.file_argument.ensures.local
    ∙ ap₂ with_rule with_format c.file_argument.ensures.rule) c.arg-5.ensures
