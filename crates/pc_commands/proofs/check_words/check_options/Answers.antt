use Rattle.std.proofs.Common.{◌≡◌, ◌∙◌, ◌⊎◌, ap, codes, refl, subst, sym, [], map}
use Rattle.clap.specs.Words.{App, IsAmong, fault_of, found_of, is_simple, is_simple_and_free, kind_of, matches_of}
use Rattle.clap.specs.Words.{rows_of}
use Rattle.clap.specs.declared.error.kind.ErrorKind.TheVariants as kind
use Rattle.pc_commands.specs.CheckWords.{command_line, faults}
use Rattle.pc_commands.proofs.CheckPlain.{plain_words}
use Rattle.pc_commands.proofs.CheckReading.{gives, misses, number_at_fault, says, simple, simple_and_free, value_read}
use Rattle.pc_commands.proofs.CheckReading.{word_read}
use Rattle.pc_commands.proofs.check_words.check_options.Goals as goal

pub returns-in-Err : goal.returns-in-Err
returns-in-Err c =
    let app_is = c.in_ok-command.ensures in
    let words = map (λ w. w.now) c.args.words.now in
    let kinds = c.in-Err.ensures.kinds (ap is_simple_and_free app_is ∙ simple_and_free) in
    let has = subst (λ (a : App). (kind_of c.in-Err.error ≡ kind.OutOfMemory)
    ⊎ IsAmong (kind_of c.in-Err.error) (fault_of a words)) app_is kinds in
    let said = says words _ c.fault_of.result has c.fault_of.ensures in
    record { read = tt; plain = plain_words words; none = said.0; which = said.1 }

pub returns-in_default : goal.returns-in_default
returns-in_default c =
    let app_is = c.in_ok-command.ensures in
    let words = map (λ w. w.now) c.args.words.now in
    let none : faults words ≡ [] = ap (λ a. fault_of a words) (sym app_is)
    ∙ c.in-Ok.ensures.kinds (ap is_simple_and_free app_is ∙ simple_and_free) in
    let rows : rows_of (found_of c.in-Ok.matches) ≡ matches_of command_line words =
    (c.in-Ok.ensures.matches (ap is_simple app_is ∙ simple)).0 ∙ ap (λ a. matches_of a words) app_is in
    let listing_is = value_read c.in-Ok.matches (codes "types") words _ _ _ c.unwrap_or.ensures c.get_str.ensures rows
    refl in
    let telling_is = value_read c.in-Ok.matches (codes "details") words _ _ _ c.unwrap_or-2.ensures
    c.get_str-2.ensures rows refl in
    let number_is = word_read c.in-Ok.matches words _ c.get_str-number.ensures rows in
    let nothing = misses words _ _ _ _ _ none listing_is telling_is number_is c.eq-types.ensures c.eq-details.ensures
    (sym c.format_asked.ensures ∙ c.in_default.is) in
    let said = number_at_fault words c.format_fault.result none nothing c.format_fault.ensures in
    record { read = tt; plain = plain_words words; none = said.0; which = said.1 }

pub returns-clause-read : goal.returns-clause-read
returns-clause-read c =
    let app_is = c.in_ok-command.ensures in
    let words = map (λ w. w.now) c.args.words.now in
    let none : faults words ≡ [] = ap (λ a. fault_of a words) (sym app_is)
    ∙ c.in-Ok.ensures.kinds (ap is_simple_and_free app_is ∙ simple_and_free) in
    let rows : rows_of (found_of c.in-Ok.matches) ≡ matches_of command_line words =
    (c.in-Ok.ensures.matches (ap is_simple app_is ∙ simple)).0 ∙ ap (λ a. matches_of a words) app_is in
    let listing_is = value_read c.in-Ok.matches (codes "types") words _ _ _ c.unwrap_or.ensures c.get_str.ensures rows
    refl in
    let telling_is = value_read c.in-Ok.matches (codes "details") words _ _ _ c.unwrap_or-2.ensures
    c.get_str-2.ensures rows refl in
    let number_is = word_read c.in-Ok.matches words _ c.get_str-number.ensures rows in
    let flag_is = value_read c.in-Ok.matches (codes "json") words _ _ _ c.unwrap_or-3.ensures c.get_str-3.ensures rows
    refl in
    let file_is = value_read c.in-Ok.matches (codes "file") words _ _ _ c.unwrap_or-4.ensures c.get_str-4.ensures rows
    refl in
    gives words _ _ _ _ _ _ _ _ _ _ none flag_is listing_is telling_is number_is file_is c.eq-json.ensures
    c.eq-types.ensures c.eq-details.ensures (sym c.format_asked.ensures ∙ c.in-Some.is) c.in_ok-file.ensures.ok

pub returns-clause-plain : goal.returns-clause-plain
returns-clause-plain c = plain_words (map (λ w. w.now) c.args.words.now)

pub returns-in_err-command-clause-plain : goal.returns-in_err-command-clause-plain
returns-in_err-command-clause-plain c = plain_words (map (λ w. w.now) c.args.words.now)

pub returns-in_err-file-clause-plain : goal.returns-in_err-file-clause-plain
returns-in_err-file-clause-plain c = plain_words (map (λ w. w.now) c.args.words.now)
