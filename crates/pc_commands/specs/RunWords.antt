-- The words of the command line of `pyrun`, as `clap` reads them. Own rule of the profile.
use Rattle.std.specs.Prelude.{ℕ, ◌^◌, Bool, true, false, not, ◌&&◌, List, [], ◌∷◌, length, nat_lt, if◌then◌else◌}
use Rattle.std.specs.Prelude.{Option, Some, None, option_and_then, unwrap_or, codes}
use Rattle.std.specs.List.{list_any}
use Rattle.std.specs.Str.{all_ascii_digits, bytes_eq}
use Rattle.std.specs.Str.Parse.{digits_value}
use Rattle.clap.specs.Words.{App, Kinds, Rule, Text, fault_of, first_of, matches_of, new_rule}
use Rattle.clap.specs.Simple.{new_shape}
use Rattle.clap.specs.declared.builder.action.ArgAction.TheVariants.{Set}
use Rattle.pc_commands.specs.CheckWords.{file_rule}
use Rattle.pc_commands.specs.Faults.{begins_with_dash, is_request, mistaken_by, without_faults}

-- the request for a run of a file, with this fuel and these choices
pub record Asked : Type 0 where
  pub fuel : ℕ
  pub choices : Text
  pub file : Text

-- `--fuel` with a value, which is required
abbrev pub fuel_rule : Rule
fuel_rule = record (new_rule (codes "fuel")) {
  long = Some (codes "fuel");
  action = Some Set;
  value_names = 1;
  required = true;
}

-- `--choices` with a value
abbrev pub choices_rule : Rule
choices_rule = record (new_rule (codes "choices")) { long = Some (codes "choices"); action = Some Set; value_names = 1 }

-- the command line of the program: `--fuel` with a value, `--choices` with a value, and a file; and it has a version
abbrev pub command_line : App
command_line = record {
  top = record (new_shape (codes "pyrun")) {
    rules = fuel_rule ∷ choices_rule ∷ file_rule ∷ [];
    no_binary_name = true;
    has_version = true;
  };
  subs = [];
}

-- the kinds of fault that `clap` finds in the words, none if it accepts them
abbrev pub faults : List Text → Kinds
faults = fault_of command_line

-- the value of an argument in the words
abbrev pub argument_value : Text → List Text → Option Text
argument_value id words = first_of id (matches_of command_line words)

-- whether a word is a number: one digit or more, that fits 64 bits
abbrev pub is_number : Text → Bool
is_number word = all_ascii_digits word && (nat_lt 0 (length word) && nat_lt (digits_value 10 word) (2 ^ 64))

-- the fuel that a word gives, if it is a number
abbrev pub fuel_in : Text → Option ℕ
fuel_in word = if is_number word then Some (digits_value 10 word) else None

-- the word for the choices, empty without `--choices`
abbrev pub choices_in : List Text → Text
choices_in words = unwrap_or (argument_value (codes "choices") words) []

-- the request for a run with these choices, if there are a fuel and a file
abbrev pub with_file : Option ℕ → Text → Option Text → Option Asked
with_file (Some fuel) choices (Some file) = Some (record { fuel = fuel; choices = choices; file = file })
with_file fuel choices file = None

-- the request of the words: `clap` finds no fault in them, and the value of `--fuel` is a number
abbrev pub asked : List Text → Option Asked
asked words = without_faults (faults words)
    (with_file (option_and_then fuel_in (argument_value (codes "fuel") words)) (choices_in words)
    (argument_value (codes "file") words))

-- whether the words are plain: `--fuel` and a number, `--choices` and a word or neither, and a file; no number, word or
-- file begins with a dash
abbrev pub are_plain : List Text → Bool
are_plain (flag ∷ number ∷ file ∷ []) = bytes_eq flag (codes "--fuel")
    && (not (begins_with_dash number) && not (begins_with_dash file))
are_plain (flag ∷ number ∷ second ∷ word ∷ file ∷ []) =
    (bytes_eq flag (codes "--fuel") && not (begins_with_dash number))
    && ((bytes_eq second (codes "--choices") && not (begins_with_dash word)) && not (begins_with_dash file))
are_plain words = false

-- the request of plain words, defined without `clap`
abbrev pub plainly_asked : List Text → Option Asked
plainly_asked (flag ∷ number ∷ file ∷ []) = with_file (fuel_in number) [] (Some file)
plainly_asked (flag ∷ number ∷ second ∷ word ∷ file ∷ []) = with_file (fuel_in number) word (Some file)
plainly_asked words = None

-- whether the words ask for help or for the version
abbrev pub asks_for_help : List Text → Bool
asks_for_help words = list_any is_request (faults words)

-- whether the words are mistaken: `clap` finds a mistake in them, or only the value of `--fuel` is no number
abbrev pub is_mistaken : List Text → Bool
is_mistaken words = mistaken_by (faults words) (asked words)
