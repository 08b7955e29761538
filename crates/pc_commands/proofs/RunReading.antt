-- The request of the words for a run, from the contracts of `clap`.
use Rattle.std.proofs.Common.{◌≡◌, ◌∙◌, ◌⊎◌, refl, sym, ap, ap₂, inl, inr, true, true≢false, List, [], Option, Some}
use Rattle.std.proofs.Common.{None, codes, ℕ, option_map, Bor}
use Rattle.std.specs.Prelude.{is_some, option_and_then, unwrap_or}
use Rattle.clap.specs.Words.{IsAmong, Kinds, Text, first_of, first_value, found_of, is_simple, is_simple_and_free}
use Rattle.clap.specs.Words.{matches_of, rows_of}
use Rattle.clap.specs.declared.parser.matches.ArgMatches.{ArgMatches}
use Rattle.clap.specs.declared.error.kind.ErrorKind.{ErrorKind}
use Rattle.clap.specs.declared.error.kind.ErrorKind.TheVariants as kind
use Rattle.clap.proofs.OnLiterals.{clap_on_literals}
use Rattle.clap.proofs.WalkLemmas.{first_value-rows}
use Rattle.pc_commands.specs.declared.faults.OptionFault.{OptionFault}
use Rattle.pc_commands.specs.Faults.{OnFault, is_mistake, is_request, without_faults}
use Rattle.pc_commands.specs.RunWords.{Asked, asked, asks_for_help, command_line, faults, fuel_in, is_mistaken}
use Rattle.pc_commands.specs.RunWords.{argument_value, choices_in, with_file}
use Rattle.pc_commands.proofs.SaidOfFaults.{error_says, value_at_fault}

pub simple : is_simple command_line ≡ true
unfolding clap_on_literals
simple = refl

pub simple_and_free : is_simple_and_free command_line ≡ true
unfolding clap_on_literals
simple_and_free = refl

-- a getter reads the value of an argument
value_read : (m : ArgMatches) (id : Text) (words : List Text) (got : Option Text) → got ≡ first_value (found_of m) id
    → rows_of (found_of m) ≡ matches_of command_line words → got ≡ argument_value id words
value_read m id words got is rows = is ∙ first_value-rows (found_of m) id ∙ ap (first_of id) rows

-- where `clap` finds no fault, the words ask for a run of what was read
pub asked_is : (words : List Text) → faults words ≡ [] → asked words
    ≡ with_file (option_and_then fuel_in (argument_value (codes "fuel") words)) (choices_in words)
    (argument_value (codes "file") words)
asked_is words none =
    ap (λ kinds. without_faults kinds (with_file (option_and_then fuel_in (argument_value (codes "fuel") words))
    (choices_in words) (argument_value (codes "file") words))) none

-- a getter reads the word for the choices, and where there is none the empty text
pub choices_read : (m : ArgMatches) (words : List Text) (got : Option (Bor Text)) (other text : Bor Text)
    → text ≡ unwrap_or got other
    → option_map (λ s. s.now) got ≡ first_value (found_of m) (codes "choices")
    → rows_of (found_of m) ≡ matches_of command_line words → other.now ≡ [] → text.now ≡ choices_in words
choices_read m words got other text so is rows empty =
    ap (λ (t : Bor Text). t.now) so ∙ or_empty got ∙ ap (λ o. unwrap_or o []) (value_read m (codes "choices") words _ is rows)
  where
    or_empty : (got : Option (Bor Text)) → (unwrap_or got other).now ≡ unwrap_or (option_map (λ s. s.now) got) []
    or_empty None = empty
    or_empty (Some t) = refl

-- the request of the words is that of the fuel and the file that the getters gave
pub reads : (words : List Text) (m : ArgMatches) (fuel : Option ℕ) (file : Option Text) → faults words ≡ []
    → rows_of (found_of m) ≡ matches_of command_line words
    → fuel ≡ option_and_then fuel_in (first_value (found_of m) (codes "fuel"))
    → file ≡ first_value (found_of m) (codes "file") → asked words ≡ with_file fuel (choices_in words) file
reads words m fuel file none rows fuel_is file_is =
    asked_is words none
    ∙ sym (ap₂ (λ n t. with_file n (choices_in words) t) (fuel_is ∙ ap (option_and_then fuel_in) (value_read m (codes "fuel") words _ refl rows))
    (value_read m (codes "file") words _ file_is rows))

-- a fuel and a file were read, and the word for the choices and the file were copied
pub gives : (words : List Text) (fuel : Option ℕ) (file : Option Text) (n : ℕ) (text word copy : Text)
    → asked words ≡ with_file fuel (choices_in words) file → fuel ≡ Some n → file ≡ Some text → word ≡ choices_in words
    → copy ≡ text → asked words ≡ Some (record { fuel = n; choices = word; file = copy })
gives words fuel file n text word copy so fuel_is file_is word_is same =
    so ∙ ap₂ (λ o t. with_file o (choices_in words) t) fuel_is file_is
    ∙ ap₂ (λ w t. with_file (Some n) w (Some t)) (sym word_is) (sym same)

-- there is no request if the fuel or the file is missing
pub misses : (fuel : Option ℕ) (word : Text) (file : Option Text) → (fuel ≡ None) ⊎ (file ≡ None)
    → with_file fuel word file ≡ None
misses None word file is = refl
misses (Some n) word None is = refl
misses (Some n) word (Some t) (inl is) = absurd (true≢false (ap is_some is))
misses (Some n) word (Some t) (inr is) = absurd (true≢false (ap is_some is))

-- the request of the words, given the values that `clap` reads, faults aside
abbrev read : List Text → Option Asked
read words = with_file (option_and_then fuel_in (argument_value (codes "fuel") words)) (choices_in words)
    (argument_value (codes "file") words)

-- the fault reported for an error of `clap` is true of the words
pub says : (words : List Text) (k : ErrorKind) (r : OptionFault) → (k ≡ kind.OutOfMemory) ⊎ IsAmong k (faults words)
    → OnFault (is_mistake k ≡ true) (is_request k ≡ true) r
    → OnFault (asked words ≡ None) (asked words ≡ None) r × OnFault (is_mistaken words ≡ true)
    (asks_for_help words ≡ true) r
says words k r has said = error_says (faults words) (read words) k r has said

-- the number is at fault
pub number_at_fault : (words : List Text) (r : OptionFault) → faults words ≡ [] → asked words ≡ None
    → OnFault (Unit {0}) ⊥ r
    → OnFault (asked words ≡ None) (asked words ≡ None) r × OnFault (is_mistaken words ≡ true)
    (asks_for_help words ≡ true) r
number_at_fault words r none nothing said = value_at_fault (faults words) (asked words) r none nothing said
