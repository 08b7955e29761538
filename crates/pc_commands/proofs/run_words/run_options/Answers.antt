use Rattle.std.proofs.Common.{◌≡◌, ◌∙◌, ◌⊎◌, None, ap, inl, inr, refl, subst, sym, [], map, option_map}
use Rattle.clap.specs.Words.{App, IsAmong, fault_of, found_of, is_simple, is_simple_and_free, kind_of, matches_of}
use Rattle.clap.specs.Words.{rows_of}
use Rattle.clap.specs.declared.error.kind.ErrorKind.TheVariants as kind
use Rattle.pc_commands.specs.RunWords.{asked, command_line, faults}
use Rattle.pc_commands.proofs.RunPlain.{plain_words}
use Rattle.pc_commands.proofs.RunReading.{choices_read, gives, misses, number_at_fault, reads, says, simple, simple_and_free}
use Rattle.pc_commands.proofs.run_words.run_options.Goals as goal
use Rattle.pc_commands.proofs.run_words.run_options.Goals.{in_default-via-in-Some+in_default, in_default-via-in_default}

pub returns-in-Err : goal.returns-in-Err
returns-in-Err c =
    let app_is = c.in_ok-command.ensures in
    let words = map (λ w. w.now) c.args.words.now in
    let kinds = c.in-Err.ensures.kinds (ap is_simple_and_free app_is ∙ simple_and_free) in
    let has = subst (λ (a : App). (kind_of c.in-Err.error ≡ kind.OutOfMemory)
    ⊎ IsAmong (kind_of c.in-Err.error) (fault_of a words)) app_is kinds in
    let said = says words _ c.fault_of.result has c.fault_of.ensures in
    record { read = tt; plain = plain_words words; none = said.0; which = said.1 }

pub returns-in_default : goal.returns-in_default
returns-in_default c =
    let app_is = c.in_ok-command.ensures in
    let words = map (λ w. w.now) c.args.words.now in
    let none : faults words ≡ [] = ap (λ a. fault_of a words) (sym app_is)
    ∙ c.in-Ok.ensures.kinds (ap is_simple_and_free app_is ∙ simple_and_free) in
    let rows : rows_of (found_of c.in-Ok.matches) ≡ matches_of command_line words =
    (c.in-Ok.ensures.matches (ap is_simple app_is ∙ simple)).0 ∙ ap (λ a. matches_of a words) app_is in
    let asked_so = reads words c.in-Ok.matches c.fuel_given.result _ none rows c.fuel_given.ensures c.get_str.ensures in
    let nothing : asked words ≡ None = elim c.in_default.branch [
      | in_default-via-in-Some+in_default w ↦ asked_so ∙ misses _ _ _
          (inr (ap (option_map (λ s. s.now)) w.in_default.is-1))
      | in_default-via-in_default w ↦ asked_so ∙ misses _ _ _ (inl w.in_default.is-0)
    ] in
    let said = number_at_fault words c.number_fault.result none nothing c.number_fault.ensures in
    record { read = tt; plain = plain_words words; none = said.0; which = said.1 }

pub returns-clause-read : goal.returns-clause-read
returns-clause-read c =
    let app_is = c.in_ok-command.ensures in
    let words = map (λ w. w.now) c.args.words.now in
    let none : faults words ≡ [] = ap (λ a. fault_of a words) (sym app_is)
    ∙ c.in-Ok.ensures.kinds (ap is_simple_and_free app_is ∙ simple_and_free) in
    let rows : rows_of (found_of c.in-Ok.matches) ≡ matches_of command_line words =
    (c.in-Ok.ensures.matches (ap is_simple app_is ∙ simple)).0 ∙ ap (λ a. matches_of a words) app_is in
    let asked_so = reads words c.in-Ok.matches c.fuel_given.result _ none rows c.fuel_given.ensures c.get_str.ensures in
    let word_is = choices_read c.in-Ok.matches words _ _ _ c.unwrap_or.ensures c.get_str-2.ensures rows refl in
    gives words _ _ _ _ _ _ asked_so c.in-Some-Some.is-0 (ap (option_map (λ s. s.now)) c.in-Some-Some.is-1)
    (c.in_ok-choices.ensures.ok ∙ word_is) c.in_ok-file.ensures.ok

pub returns-clause-plain : goal.returns-clause-plain
returns-clause-plain c = plain_words (map (λ w. w.now) c.args.words.now)

pub returns-in_err-command-clause-plain : goal.returns-in_err-command-clause-plain
returns-in_err-command-clause-plain c = plain_words (map (λ w. w.now) c.args.words.now)

pub returns-in_err-file-clause-plain : goal.returns-in_err-file-clause-plain
returns-in_err-file-clause-plain c = plain_words (map (λ w. w.now) c.args.words.now)

pub returns-in_err-choices-clause-plain : goal.returns-in_err-choices-clause-plain
returns-in_err-choices-clause-plain c = plain_words (map (λ w. w.now) c.args.words.now)
