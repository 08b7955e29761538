-- The data of the command, by what each builder says.
use Rattle.std.proofs.Common.{◌≡◌, ◌∙◌, rules, ap₂, codes, true, []}
use Rattle.std.proofs.lemmas.Result.{IfOk-weaker}
use Rattle.clap.specs.Words.{App, app_of, with_rule}
use Rattle.clap.specs.Simple.{new_shape}
use Rattle.pc_commands.specs.RunWords.{choices_rule, fuel_rule}
use Rattle.pc_commands.proofs.run_words.command.Goals as goal

abbrev bare : App
bare = record { top = record (new_shape (codes "pyrun")) { no_binary_name = true; has_version = true }; subs = [] }

pub returns : goal.returns
returns c =
    let bare_is : app_of c.no_binary_name.result ≡ bare = search rules in
    let with_fuel : app_of c.in_ok-arg.field-0 ≡ with_rule bare fuel_rule =
    c.in_ok-arg.ensures.shape c.fuel_argument.ensures.local ∙ ap₂ with_rule bare_is c.fuel_argument.ensures.rule in
    let with_choices : app_of c.in_ok-arg-2.field-0 ≡ with_rule (with_rule bare fuel_rule) choices_rule =
    c.in_ok-arg-2.ensures.shape c.choices_argument.ensures.local
    ∙ ap₂ with_rule with_fuel c.choices_argument.ensures.rule in
    IfOk-weaker c.arg-3.result _ _ (λ r h. h.shape c.file_argument.ensures.local
    ∙ ap₂ with_rule with_choices c.file_argument.ensures.rule) c.arg-3.ensures
