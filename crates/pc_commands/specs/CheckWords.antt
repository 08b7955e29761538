-- The words of the command line of `pycheck`, as `clap` reads them. Own rule of the profile.
use Rattle.std.specs.Prelude.{Bool, true, false, not, ◌&&◌, ◌||◌, List, [], ◌∷◌, find, if◌then◌else◌, Option, Some, None}
use Rattle.std.specs.Prelude.{option_and_then, unwrap_or, codes}
use Rattle.std.specs.List.{list_any}
use Rattle.std.specs.Str.{bytes_eq}
use Rattle.clap.specs.Words.{App, Kinds, Rule, Text, fault_of, first_of, matches_of, new_rule}
use Rattle.clap.specs.Simple.{new_shape}
use Rattle.clap.specs.declared.builder.action.ArgAction.TheVariants.{Set, SetTrue}
use Rattle.pc_report.specs.declared.format.Format.{Format}
use Rattle.pc_report.specs.declared.format.Format.TheVariants.{One, Two}
use Rattle.pc_commands.specs.Faults.{begins_with_dash, is_request, mistaken_by, without_faults}

-- the request for a check of a file: as JSON or text, the listing of types, the report with details, or the report in a
-- format
pub record Asked : Type 0 where
  pub json : Bool
  pub types : Bool
  pub details : Bool
  pub format : Format
  pub file : Text

-- the flag `--json`
abbrev pub json_rule : Rule
json_rule = record (new_rule (codes "json")) { long = Some (codes "json"); action = Some SetTrue }

-- the flag `--types`
abbrev pub types_rule : Rule
types_rule = record (new_rule (codes "types")) { long = Some (codes "types"); action = Some SetTrue }

-- the flag `--details`
abbrev pub details_rule : Rule
details_rule = record (new_rule (codes "details")) { long = Some (codes "details"); action = Some SetTrue }

-- `--format` with a value
abbrev pub format_rule : Rule
format_rule = record (new_rule (codes "format")) { long = Some (codes "format"); action = Some Set; value_names = 1 }

-- the file, which is required
abbrev pub file_rule : Rule
file_rule = record (new_rule (codes "file")) { action = Some Set; value_names = 1; required = true }

-- the command line of the program: `--json`, `--types`, `--details`, `--format` with a value, and a file; and it has a
-- version
abbrev pub command_line : App
command_line = record {
  top = record (new_shape (codes "pycheck")) {
    rules = json_rule ∷ types_rule ∷ details_rule ∷ format_rule ∷ file_rule ∷ [];
    no_binary_name = true;
    has_version = true;
  };
  subs = [];
}

-- the kinds of fault that `clap` finds in the words, none if it accepts them
abbrev pub faults : List Text → Kinds
faults = fault_of command_line

-- the value of an argument in the words, empty if there is none
abbrev pub argument_value : Text → List Text → Text
argument_value id words = unwrap_or (first_of id (matches_of command_line words)) []

-- whether a flag is given; its value is `true` then
abbrev pub is_given : Text → List Text → Bool
is_given id words = bytes_eq (argument_value id words) (codes "true")

-- the value of `--format`, if it is given
abbrev pub format_word : List Text → Option Text
format_word words = first_of (codes "format") (matches_of command_line words)

-- the format that a word names: `1` or `2`, and nothing else
abbrev pub format_in : Text → Option Format
format_in word = if bytes_eq word (codes "1") then Some One else (if bytes_eq word (codes "2") then Some Two else None)

-- the format that is asked for: two without `--format`, else what its value names; of `--types`, `--details` and
-- `--format` at most one is given
abbrev pub format_asked : (types details : Bool) → Option Text → Option Format
format_asked types details None = if types && details then None else Some Two
format_asked types details (Some word) = if types || details then None else format_in word

-- the request for a check, if there is a format
abbrev pub in_format : (json types details : Bool) → Option Format → Text → Option Asked
in_format json types details (Some format) file = Some (record {
  json = json;
  types = types;
  details = details;
  format = format;
  file = file;
})
in_format json types details None file = None

-- the request of these parts: whether `--json`, `--types` and `--details` are given, the value of `--format`, and the file
abbrev pub asked_of : (json types details : Bool) → Option Text → Text → Option Asked
asked_of json types details number file = in_format json types details (format_asked types details number) file

-- the request of the words: `clap` finds no fault in them, and there is a format
abbrev pub asked : List Text → Option Asked
asked words = without_faults (faults words)
    (asked_of (is_given (codes "json") words) (is_given (codes "types") words) (is_given (codes "details") words)
    (format_word words) (argument_value (codes "file") words))

-- whether a word is the flag `--json`
abbrev pub is_flag : Text → Bool
is_flag word = bytes_eq word (codes "--json")

-- whether a word is the flag `--types`
abbrev pub is_types_flag : Text → Bool
is_types_flag word = bytes_eq word (codes "--types")

-- whether a word is the flag `--details`
abbrev pub is_details_flag : Text → Bool
is_details_flag word = bytes_eq word (codes "--details")

-- whether two words are `--format` and a word that does not begin with a dash
abbrev pub is_choice : Text → Text → Bool
is_choice name number = bytes_eq name (codes "--format") && not (begins_with_dash number)

-- whether a word is a file, which does not begin with a dash
abbrev pub is_file : Text → Bool
is_file word = not (begins_with_dash word)

-- a reading of words: whether it applies, whether `--json`, `--types` and `--details` are given, the word for the
-- format, if there is one, and the file
pub record WordsReading : Type 0 where
  pub holds : Bool
  pub json : Bool
  pub types : Bool
  pub details : Bool
  pub number : Option Text
  pub file : Text

-- a reading without `--types` and `--details`
abbrev pub report_reading : Bool → Bool → Option Text → Text → WordsReading
report_reading holds json number file = record {
  holds = holds;
  json = json;
  types = false;
  details = false;
  number = number;
  file = file;
}

-- a reading with `--types`, which goes with no format
abbrev pub types_reading : Bool → Bool → Text → WordsReading
types_reading holds json file = record {
  holds = holds;
  json = json;
  types = true;
  details = false;
  number = None;
  file = file;
}

-- a reading with `--details`, which goes with no format
abbrev pub details_reading : Bool → Bool → Text → WordsReading
details_reading holds json file = record {
  holds = holds;
  json = json;
  types = false;
  details = true;
  number = None;
  file = file;
}

-- the readings of that many words: a file, with or without `--json`, and with `--types`, `--details`, `--format` and a
-- number or none of these, in each order
abbrev pub readings : List Text → List WordsReading
readings (first ∷ []) = report_reading (is_file first) false None first ∷ []
readings (first ∷ second ∷ []) =
    report_reading (is_flag first && is_file second) true None second
    ∷ report_reading (is_file first && is_flag second) true None first
    ∷ types_reading (is_types_flag first && is_file second) false second
    ∷ types_reading (is_file first && is_types_flag second) false first
    ∷ details_reading (is_details_flag first && is_file second) false second
    ∷ details_reading (is_file first && is_details_flag second) false first
    ∷ []
readings (first ∷ second ∷ third ∷ []) =
    report_reading (is_choice first second && is_file third) false (Some second) third
    ∷ report_reading (is_file first && is_choice second third) false (Some third) first
    ∷ types_reading (is_flag first && (is_types_flag second && is_file third)) true third
    ∷ types_reading (is_types_flag first && (is_flag second && is_file third)) true third
    ∷ types_reading (is_flag first && (is_file second && is_types_flag third)) true second
    ∷ types_reading (is_types_flag first && (is_file second && is_flag third)) true second
    ∷ types_reading (is_file first && (is_flag second && is_types_flag third)) true first
    ∷ types_reading (is_file first && (is_types_flag second && is_flag third)) true first
    ∷ details_reading (is_flag first && (is_details_flag second && is_file third)) true third
    ∷ details_reading (is_details_flag first && (is_flag second && is_file third)) true third
    ∷ details_reading (is_flag first && (is_file second && is_details_flag third)) true second
    ∷ details_reading (is_details_flag first && (is_file second && is_flag third)) true second
    ∷ details_reading (is_file first && (is_flag second && is_details_flag third)) true first
    ∷ details_reading (is_file first && (is_details_flag second && is_flag third)) true first
    ∷ []
readings (first ∷ second ∷ third ∷ fourth ∷ []) =
    report_reading (is_flag first && (is_choice second third && is_file fourth)) true (Some third) fourth
    ∷ report_reading (is_flag first && (is_file second && is_choice third fourth)) true (Some fourth) second
    ∷ report_reading (is_choice first second && (is_flag third && is_file fourth)) true (Some second) fourth
    ∷ report_reading (is_choice first second && (is_file third && is_flag fourth)) true (Some second) third
    ∷ report_reading (is_file first && (is_flag second && is_choice third fourth)) true (Some fourth) first
    ∷ report_reading (is_file first && (is_choice second third && is_flag fourth)) true (Some third) first
    ∷ []
readings words = []

-- whether the words are plain: one of these readings applies
abbrev pub are_plain : List Text → Bool
are_plain words = list_any (λ r. r.holds) (readings words)

-- the request of a reading
abbrev pub asked_by : WordsReading → Option Asked
asked_by r = asked_of r.json r.types r.details r.number r.file

-- the request of plain words, defined without `clap`
abbrev pub plainly_asked : List Text → Option Asked
plainly_asked words = option_and_then asked_by (find (λ r. r.holds) (readings words))

-- whether the words ask for help or for the version
abbrev pub asks_for_help : List Text → Bool
asks_for_help words = list_any is_request (faults words)

-- whether the words are mistaken: `clap` finds a mistake in them, or only the value of `--format` names no format, or two
-- of `--types`, `--details` and `--format` are given together
abbrev pub is_mistaken : List Text → Bool
is_mistaken words = mistaken_by (faults words) (asked words)
