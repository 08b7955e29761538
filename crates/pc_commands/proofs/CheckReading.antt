-- The request of the words for a check, from the contracts of `clap`.
use Rattle.std.proofs.Common.{◌≡◌, ◌∙◌, ◌⊎◌, refl, sym, ap, ap₂, true, Bool, List, [], Option, Some, None, codes}
use Rattle.std.proofs.Common.{option_map, Bor}
use Rattle.std.specs.Str.{bytes_eq}
use Rattle.std.specs.Prelude.{unwrap_or}
use Rattle.clap.specs.Words.{IsAmong, Kinds, Text, first_of, first_value, found_of, is_simple, is_simple_and_free}
use Rattle.clap.specs.Words.{matches_of, rows_of}
use Rattle.clap.specs.declared.parser.matches.ArgMatches.{ArgMatches}
use Rattle.clap.specs.declared.error.kind.ErrorKind.{ErrorKind}
use Rattle.clap.specs.declared.error.kind.ErrorKind.TheVariants as kind
use Rattle.clap.proofs.OnLiterals.{clap_on_literals}
use Rattle.clap.proofs.WalkLemmas.{first_value-rows}
use Rattle.pc_report.specs.declared.format.Format.{Format}
use Rattle.pc_commands.specs.declared.faults.OptionFault.{OptionFault}
use Rattle.pc_commands.specs.Faults.{OnFault, is_mistake, is_request, without_faults}
use Rattle.pc_commands.specs.CheckWords.{Asked, asked, asked_of, asks_for_help, command_line, faults, format_asked}
use Rattle.pc_commands.specs.CheckWords.{format_word, in_format, is_given, is_mistaken, argument_value}
use Rattle.pc_commands.proofs.SaidOfFaults.{error_says, value_at_fault}

pub simple : is_simple command_line ≡ true
unfolding clap_on_literals
simple = refl

pub simple_and_free : is_simple_and_free command_line ≡ true
unfolding clap_on_literals
simple_and_free = refl

-- a getter reads the value of an argument, and where there is none the empty text
pub value_read : (m : ArgMatches) (id : Text) (words : List Text) (got : Option (Bor Text)) (other text : Bor Text)
    → text ≡ unwrap_or got other
    → option_map (λ s. s.now) got ≡ first_value (found_of m) id → rows_of (found_of m) ≡ matches_of command_line words
    → other.now ≡ [] → text.now ≡ argument_value id words
value_read m id words got other text so is rows empty =
    ap (λ (t : Bor Text). t.now) so ∙ or_empty got ∙ ap (λ o. unwrap_or o []) (is ∙ first_value-rows (found_of m) id
    ∙ ap (first_of id) rows)
  where
    or_empty : (got : Option (Bor Text)) → (unwrap_or got other).now ≡ unwrap_or (option_map (λ s. s.now) got) []
    or_empty None = empty
    or_empty (Some t) = refl

-- a getter reads the value of `--format`, if it is given
pub word_read : (m : ArgMatches) (words : List Text) (got : Option (Bor Text))
    → option_map (λ s. s.now) got ≡ first_value (found_of m) (codes "format")
    → rows_of (found_of m) ≡ matches_of command_line words → option_map (λ s. s.now) got ≡ format_word words
word_read m words got is rows = is ∙ first_value-rows (found_of m) (codes "format")
    ∙ ap (first_of (codes "format")) rows

-- where `clap` finds no fault, the words ask for a check of what was read
asked_is : (words : List Text) (flag listing telling : Text) (number : Option Text) (file : Text) → faults words ≡ []
    → flag ≡ argument_value (codes "json") words → listing ≡ argument_value (codes "types") words
    → telling ≡ argument_value (codes "details") words → number ≡ format_word words → file ≡ argument_value (codes "file") words
    → asked words ≡ asked_of (bytes_eq flag (codes "true")) (bytes_eq listing (codes "true"))
    (bytes_eq telling (codes "true")) number file
asked_is words flag listing telling number file none flag_is kinds_is telling_is number_is file_is =
    rw (flag_is, kinds_is, telling_is, number_is, file_is) (
    ap (λ kinds. without_faults kinds (asked_of (is_given (codes "json") words) (is_given (codes "types") words)
    (is_given (codes "details") words) (format_word words) (argument_value (codes "file") words))) none
    )

-- there is a format, and the file was copied
pub gives : (words : List Text) (flag listing telling : Text) (number : Option Text) (file copy : Text)
    (json types details : Bool) (format : Format) → faults words ≡ [] → flag ≡ argument_value (codes "json") words
    → listing ≡ argument_value (codes "types") words → telling ≡ argument_value (codes "details") words
    → number ≡ format_word words → file ≡ argument_value (codes "file") words → json ≡ bytes_eq flag (codes "true")
    → types ≡ bytes_eq listing (codes "true") → details ≡ bytes_eq telling (codes "true")
    → format_asked types details number ≡ Some format → copy ≡ file
    → asked words ≡ Some (record { json = json; types = types; details = details; format = format; file = copy })
gives words flag listing telling number file copy json types details format none flag_is kinds_is telling_is number_is
    file_is json_is types_is details_is format_is copy_is =
    asked_is words flag listing telling number file none flag_is kinds_is telling_is number_is file_is
    ∙ sym (ap₂ (λ (j t : Bool). asked_of j t (bytes_eq telling (codes "true")) number file) json_is types_is)
    ∙ sym (ap (λ (d : Bool). asked_of json types d number file) details_is)
    ∙ ap (λ o. in_format json types details o file) format_is
    ∙ ap (λ (f : Text). in_format json types details (Some format) f) (sym copy_is)

-- there is no format
pub misses : (words : List Text) (listing telling : Text) (number : Option Text) (types details : Bool) → faults words ≡ []
    → listing ≡ argument_value (codes "types") words → telling ≡ argument_value (codes "details") words
    → number ≡ format_word words → types ≡ bytes_eq listing (codes "true")
    → details ≡ bytes_eq telling (codes "true") → format_asked types details number ≡ None → asked words ≡ None
misses words listing telling number types details none kinds_is telling_is number_is types_is details_is format_is =
    asked_is words _ listing telling number _ none refl kinds_is telling_is number_is refl
    ∙ sym (ap₂ (λ (t d : Bool). asked_of (is_given (codes "json") words) t d number (argument_value (codes "file") words))
    types_is details_is)
    ∙ ap (λ o. in_format (is_given (codes "json") words) types details o (argument_value (codes "file") words)) format_is

-- the request of the words, given the values that `clap` reads, faults aside
abbrev read : List Text → Option Asked
read words = asked_of (is_given (codes "json") words) (is_given (codes "types") words)
    (is_given (codes "details") words) (format_word words) (argument_value (codes "file") words)

-- the fault reported for an error of `clap` is true of the words
pub says : (words : List Text) (k : ErrorKind) (r : OptionFault) → (k ≡ kind.OutOfMemory) ⊎ IsAmong k (faults words)
    → OnFault (is_mistake k ≡ true) (is_request k ≡ true) r
    → OnFault (asked words ≡ None) (asked words ≡ None) r × OnFault (is_mistaken words ≡ true)
    (asks_for_help words ≡ true) r
says words k r has said = error_says (faults words) (read words) k r has said

-- the number is at fault
pub number_at_fault : (words : List Text) (r : OptionFault) → faults words ≡ [] → asked words ≡ None
    → OnFault (Unit {0}) ⊥ r
    → OnFault (asked words ≡ None) (asked words ≡ None) r × OnFault (is_mistaken words ≡ true)
    (asks_for_help words ≡ true) r
number_at_fault words r none nothing said = value_at_fault (faults words) (asked words) r none nothing said
