-- A file, `--json` or not, and `--types`, `--details`, `--format` with a number, or none of these: plain
-- words, in each order.
use Rattle.std.proofs.Common.{◌≡◌, ◌∙◌, ◌&&◌, ◌||◌, refl, sym, ap, ap₂, Bool, true, false, true≢false, List, [], ◌∷◌}
use Rattle.std.proofs.Common.{Option, Some, None, cond, codes}
use Rattle.std.specs.Prelude.{find, option_and_then}
use Rattle.std.specs.List.{list_any}
use Rattle.clap.proofs.WalkLemmas.{both}
use Rattle.std.specs.Str.{bytes_eq}
use Rattle.std.proofs.lemmas.Bool.{not-true}
use Rattle.std.proofs.lemmas.Slice.Eq.{bytes_eq-Decides}
use Rattle.clap.specs.Words.{Kinds, Text}
use Rattle.clap.proofs.OnLiterals.{clap_on_literals}
use Rattle.pc_commands.specs.CheckWords.{WordsReading, are_plain, asked, asked_by, asked_of, faults, format_word, is_choice}
use Rattle.pc_commands.specs.CheckWords.{is_details_flag, is_file, is_flag, is_types_flag, plainly_asked, readings, argument_value}
use Rattle.pc_commands.specs.Faults.{begins_with_dash, without_faults}
use Rattle.pc_commands.proofs.SaidOfFaults.{long_none, not_dashes, short_none}

-- what `clap` makes of words: its faults, and the values of the five arguments
abbrev Found : Type 0
Found = Kinds × Text × Text × Text × Option Text × Text

abbrev found : List Text → Found
found words = (
  faults words,
  argument_value (codes "json") words,
  argument_value (codes "types") words,
  argument_value (codes "details") words,
  format_word words,
  argument_value (codes "file") words,
)

-- what is asked, by what `clap` makes of the words
asks : (words : List Text) (json types details : Text) (number : Option Text) (file : Text)
    → found words ≡ ([], json, types, details, number, file)
    → asked words ≡ asked_of (bytes_eq json (codes "true")) (bytes_eq types (codes "true"))
    (bytes_eq details (codes "true")) number file
asks words json types details number file is = ap (λ (all : Found). without_faults all.0
    (asked_of (bytes_eq all.1 (codes "true")) (bytes_eq all.2 (codes "true")) (bytes_eq all.3 (codes "true")) all.4
    all.5)) is

-- ---- `clap` on each order of words

module _ (f : Text) (bf : begins_with_dash f ≡ false) where
  file_alone : found (f ∷ []) ≡ ([], codes "false", codes "false", codes "false", None, f)
  unfolding clap_on_literals
  file_alone = rw (not_dashes f bf, long_none f bf, short_none f bf) refl

  flag_file : found (codes "--json" ∷ f ∷ []) ≡ ([], codes "true", codes "false", codes "false", None, f)
  unfolding clap_on_literals
  flag_file = rw (not_dashes f bf, long_none f bf, short_none f bf) refl

  file_flag : found (f ∷ codes "--json" ∷ []) ≡ ([], codes "true", codes "false", codes "false", None, f)
  unfolding clap_on_literals
  file_flag = rw (not_dashes f bf, long_none f bf, short_none f bf) refl

  types_file : found (codes "--types" ∷ f ∷ []) ≡ ([], codes "false", codes "true", codes "false", None, f)
  unfolding clap_on_literals
  types_file = rw (not_dashes f bf, long_none f bf, short_none f bf) refl

  file_types : found (f ∷ codes "--types" ∷ []) ≡ ([], codes "false", codes "true", codes "false", None, f)
  unfolding clap_on_literals
  file_types = rw (not_dashes f bf, long_none f bf, short_none f bf) refl

  flag_types_file : found (codes "--json" ∷ codes "--types" ∷ f ∷ []) ≡ ([], codes "true", codes "true", codes "false", None, f)
  unfolding clap_on_literals
  flag_types_file = rw (not_dashes f bf, long_none f bf, short_none f bf) refl

  types_flag_file : found (codes "--types" ∷ codes "--json" ∷ f ∷ []) ≡ ([], codes "true", codes "true", codes "false", None, f)
  unfolding clap_on_literals
  types_flag_file = rw (not_dashes f bf, long_none f bf, short_none f bf) refl

  flag_file_types : found (codes "--json" ∷ f ∷ codes "--types" ∷ []) ≡ ([], codes "true", codes "true", codes "false", None, f)
  unfolding clap_on_literals
  flag_file_types = rw (not_dashes f bf, long_none f bf, short_none f bf) refl

  types_file_flag : found (codes "--types" ∷ f ∷ codes "--json" ∷ []) ≡ ([], codes "true", codes "true", codes "false", None, f)
  unfolding clap_on_literals
  types_file_flag = rw (not_dashes f bf, long_none f bf, short_none f bf) refl

  file_flag_types : found (f ∷ codes "--json" ∷ codes "--types" ∷ []) ≡ ([], codes "true", codes "true", codes "false", None, f)
  unfolding clap_on_literals
  file_flag_types = rw (not_dashes f bf, long_none f bf, short_none f bf) refl

  file_types_flag : found (f ∷ codes "--types" ∷ codes "--json" ∷ []) ≡ ([], codes "true", codes "true", codes "false", None, f)
  unfolding clap_on_literals
  file_types_flag = rw (not_dashes f bf, long_none f bf, short_none f bf) refl

  details_file : found (codes "--details" ∷ f ∷ []) ≡ ([], codes "false", codes "false", codes "true", None, f)
  unfolding clap_on_literals
  details_file = rw (not_dashes f bf, long_none f bf, short_none f bf) refl

  file_details : found (f ∷ codes "--details" ∷ []) ≡ ([], codes "false", codes "false", codes "true", None, f)
  unfolding clap_on_literals
  file_details = rw (not_dashes f bf, long_none f bf, short_none f bf) refl

  flag_details_file : found (codes "--json" ∷ codes "--details" ∷ f ∷ []) ≡ ([], codes "true", codes "false", codes "true", None, f)
  unfolding clap_on_literals
  flag_details_file = rw (not_dashes f bf, long_none f bf, short_none f bf) refl

  details_flag_file : found (codes "--details" ∷ codes "--json" ∷ f ∷ []) ≡ ([], codes "true", codes "false", codes "true", None, f)
  unfolding clap_on_literals
  details_flag_file = rw (not_dashes f bf, long_none f bf, short_none f bf) refl

  flag_file_details : found (codes "--json" ∷ f ∷ codes "--details" ∷ []) ≡ ([], codes "true", codes "false", codes "true", None, f)
  unfolding clap_on_literals
  flag_file_details = rw (not_dashes f bf, long_none f bf, short_none f bf) refl

  details_file_flag : found (codes "--details" ∷ f ∷ codes "--json" ∷ []) ≡ ([], codes "true", codes "false", codes "true", None, f)
  unfolding clap_on_literals
  details_file_flag = rw (not_dashes f bf, long_none f bf, short_none f bf) refl

  file_flag_details : found (f ∷ codes "--json" ∷ codes "--details" ∷ []) ≡ ([], codes "true", codes "false", codes "true", None, f)
  unfolding clap_on_literals
  file_flag_details = rw (not_dashes f bf, long_none f bf, short_none f bf) refl

  file_details_flag : found (f ∷ codes "--details" ∷ codes "--json" ∷ []) ≡ ([], codes "true", codes "false", codes "true", None, f)
  unfolding clap_on_literals
  file_details_flag = rw (not_dashes f bf, long_none f bf, short_none f bf) refl

module _ (n f : Text) (bn : begins_with_dash n ≡ false) (bf : begins_with_dash f ≡ false) where
  choice_file : found (codes "--format" ∷ n ∷ f ∷ []) ≡ ([], codes "false", codes "false", codes "false", Some n, f)
  unfolding clap_on_literals
  choice_file = rw (not_dashes n bn, long_none n bn, short_none n bn, not_dashes f bf, long_none f bf, short_none f bf) refl

  file_choice : found (f ∷ codes "--format" ∷ n ∷ []) ≡ ([], codes "false", codes "false", codes "false", Some n, f)
  unfolding clap_on_literals
  file_choice = rw (not_dashes f bf, long_none f bf, short_none f bf, not_dashes n bn, long_none n bn, short_none n bn) refl

  flag_choice_file : found (codes "--json" ∷ codes "--format" ∷ n ∷ f ∷ []) ≡ ([], codes "true", codes "false", codes "false", Some n, f)
  unfolding clap_on_literals
  flag_choice_file = rw (not_dashes n bn, long_none n bn, short_none n bn, not_dashes f bf, long_none f bf, short_none f bf) refl

  flag_file_choice : found (codes "--json" ∷ f ∷ codes "--format" ∷ n ∷ []) ≡ ([], codes "true", codes "false", codes "false", Some n, f)
  unfolding clap_on_literals
  flag_file_choice = rw (not_dashes f bf, long_none f bf, short_none f bf, not_dashes n bn, long_none n bn, short_none n bn) refl

  choice_flag_file : found (codes "--format" ∷ n ∷ codes "--json" ∷ f ∷ []) ≡ ([], codes "true", codes "false", codes "false", Some n, f)
  unfolding clap_on_literals
  choice_flag_file = rw (not_dashes n bn, long_none n bn, short_none n bn, not_dashes f bf, long_none f bf, short_none f bf) refl

  choice_file_flag : found (codes "--format" ∷ n ∷ f ∷ codes "--json" ∷ []) ≡ ([], codes "true", codes "false", codes "false", Some n, f)
  unfolding clap_on_literals
  choice_file_flag = rw (not_dashes n bn, long_none n bn, short_none n bn, not_dashes f bf, long_none f bf, short_none f bf) refl

  file_flag_choice : found (f ∷ codes "--json" ∷ codes "--format" ∷ n ∷ []) ≡ ([], codes "true", codes "false", codes "false", Some n, f)
  unfolding clap_on_literals
  file_flag_choice = rw (not_dashes f bf, long_none f bf, short_none f bf, not_dashes n bn, long_none n bn, short_none n bn) refl

  file_choice_flag : found (f ∷ codes "--format" ∷ n ∷ codes "--json" ∷ []) ≡ ([], codes "true", codes "false", codes "false", Some n, f)
  unfolding clap_on_literals
  file_choice_flag = rw (not_dashes f bf, long_none f bf, short_none f bf, not_dashes n bn, long_none n bn, short_none n bn) refl

-- ---- the tests of words

flag_is : (w : Text) → is_flag w ≡ true → w ≡ codes "--json"
flag_is w holds = (bytes_eq-Decides w (codes "--json")).0 holds

types_is : (w : Text) → is_types_flag w ≡ true → w ≡ codes "--types"
types_is w holds = (bytes_eq-Decides w (codes "--types")).0 holds

details_is : (w : Text) → is_details_flag w ≡ true → w ≡ codes "--details"
details_is w holds = (bytes_eq-Decides w (codes "--details")).0 holds

name_is : (w n : Text) → is_choice w n ≡ true → w ≡ codes "--format"
name_is w n holds = (bytes_eq-Decides w (codes "--format")).0 (both _ _ holds).0

number_is : (w n : Text) → is_choice w n ≡ true → begins_with_dash n ≡ false
number_is w n holds = not-true _ (both _ _ holds).1

file_is : (w : Text) → is_file w ≡ true → begins_with_dash w ≡ false
file_is w holds = not-true _ holds

-- ---- the readings

-- the request of the words is that of the reading, if the reading applies
abbrev Says : List Text → WordsReading → Type 0
Says words r = r.holds ≡ true → asked words ≡ asked_by r

abbrev AllSay : List Text → List WordsReading → Type 0
AllSay words [] = Unit {0}
AllSay words (r ∷ rest) = Says words r × AllSay words rest

-- of readings that all say what is asked, the first that holds says it
first_says : (words : List Text) (rs : List WordsReading) → AllSay words rs → list_any (λ r. r.holds) rs ≡ true
    → asked words ≡ option_and_then asked_by (find (λ r. r.holds) rs)
first_says words [] all e = absurd (true≢false (sym e))
first_says words (r ∷ rest) all e =
    let go : (b : Bool) → r.holds ≡ b → (b || list_any (λ r. r.holds) rest) ≡ true
    → asked words ≡ option_and_then asked_by (cond b (Some r) (find (λ r. r.holds) rest)) =
    λ b. elim b as (λ b. r.holds ≡ b → (b || list_any (λ r. r.holds) rest) ≡ true
    → asked words ≡ option_and_then asked_by (cond b (Some r) (find (λ r. r.holds) rest))) [
      | true ↦ λ holds _. all.0 holds
      | false ↦ λ _ more. first_says words rest all.1 more
    ] in
    go r.holds refl e

one_word : (a : Text) → AllSay (a ∷ []) (readings (a ∷ []))
one_word a = (λ h. asks _ _ _ _ _ _ (file_alone a (file_is a h)), tt)

two_words : (a b : Text) → AllSay (a ∷ b ∷ []) (readings (a ∷ b ∷ []))
two_words a b = (
  λ h. let parts = both _ _ h in ap (λ w. asked (w ∷ b ∷ [])) (flag_is a parts.0)
      ∙ asks _ _ _ _ _ _ (flag_file b (file_is b parts.1)),
  (
    λ h. let parts = both _ _ h in ap (λ w. asked (a ∷ w ∷ [])) (flag_is b parts.1)
        ∙ asks _ _ _ _ _ _ (file_flag a (file_is a parts.0)),
    (
      λ h. let parts = both _ _ h in ap (λ w. asked (w ∷ b ∷ [])) (types_is a parts.0)
          ∙ asks _ _ _ _ _ _ (types_file b (file_is b parts.1)),
      (
        λ h. let parts = both _ _ h in ap (λ w. asked (a ∷ w ∷ [])) (types_is b parts.1)
            ∙ asks _ _ _ _ _ _ (file_types a (file_is a parts.0)),
        (
          λ h. let parts = both _ _ h in ap (λ w. asked (w ∷ b ∷ [])) (details_is a parts.0)
              ∙ asks _ _ _ _ _ _ (details_file b (file_is b parts.1)),
          (
            λ h. let parts = both _ _ h in ap (λ w. asked (a ∷ w ∷ [])) (details_is b parts.1)
                ∙ asks _ _ _ _ _ _ (file_details a (file_is a parts.0)),
            tt,
          ),
        ),
      ),
    ),
  ),
)

module _ (a b c : Text) where
  abbrev three : List Text
  three = a ∷ b ∷ c ∷ []

  says_choice_file : (is_choice a b && is_file c) ≡ true → asked three ≡ asked_of false false false (Some b) c
  says_choice_file h =
      let parts = both _ _ h in
      ap (λ w. asked (w ∷ b ∷ c ∷ [])) (name_is a b parts.0)
      ∙ asks _ _ _ _ _ _ (choice_file b c (number_is a b parts.0) (file_is c parts.1))

  says_file_choice : (is_file a && is_choice b c) ≡ true → asked three ≡ asked_of false false false (Some c) a
  says_file_choice h =
      let parts = both _ _ h in
      ap (λ w. asked (a ∷ w ∷ c ∷ [])) (name_is b c parts.1)
      ∙ asks _ _ _ _ _ _ (file_choice c a (number_is b c parts.1) (file_is a parts.0))

  says_flag_types_file : (is_flag a && (is_types_flag b && is_file c)) ≡ true → asked three ≡ asked_of true true false None c
  says_flag_types_file h =
      let parts = both _ _ h in
      let rest = both _ _ parts.1 in
      ap₂ (λ v w. asked (v ∷ w ∷ c ∷ [])) (flag_is a parts.0) (types_is b rest.0)
      ∙ asks _ _ _ _ _ _ (flag_types_file c (file_is c rest.1))

  says_types_flag_file : (is_types_flag a && (is_flag b && is_file c)) ≡ true → asked three ≡ asked_of true true false None c
  says_types_flag_file h =
      let parts = both _ _ h in
      let rest = both _ _ parts.1 in
      ap₂ (λ v w. asked (v ∷ w ∷ c ∷ [])) (types_is a parts.0) (flag_is b rest.0)
      ∙ asks _ _ _ _ _ _ (types_flag_file c (file_is c rest.1))

  says_flag_file_types : (is_flag a && (is_file b && is_types_flag c)) ≡ true → asked three ≡ asked_of true true false None b
  says_flag_file_types h =
      let parts = both _ _ h in
      let rest = both _ _ parts.1 in
      ap₂ (λ v w. asked (v ∷ b ∷ w ∷ [])) (flag_is a parts.0) (types_is c rest.1)
      ∙ asks _ _ _ _ _ _ (flag_file_types b (file_is b rest.0))

  says_types_file_flag : (is_types_flag a && (is_file b && is_flag c)) ≡ true → asked three ≡ asked_of true true false None b
  says_types_file_flag h =
      let parts = both _ _ h in
      let rest = both _ _ parts.1 in
      ap₂ (λ v w. asked (v ∷ b ∷ w ∷ [])) (types_is a parts.0) (flag_is c rest.1)
      ∙ asks _ _ _ _ _ _ (types_file_flag b (file_is b rest.0))

  says_file_flag_types : (is_file a && (is_flag b && is_types_flag c)) ≡ true → asked three ≡ asked_of true true false None a
  says_file_flag_types h =
      let parts = both _ _ h in
      let rest = both _ _ parts.1 in
      ap₂ (λ v w. asked (a ∷ v ∷ w ∷ [])) (flag_is b rest.0) (types_is c rest.1)
      ∙ asks _ _ _ _ _ _ (file_flag_types a (file_is a parts.0))

  says_file_types_flag : (is_file a && (is_types_flag b && is_flag c)) ≡ true → asked three ≡ asked_of true true false None a
  says_file_types_flag h =
      let parts = both _ _ h in
      let rest = both _ _ parts.1 in
      ap₂ (λ v w. asked (a ∷ v ∷ w ∷ [])) (types_is b rest.0) (flag_is c rest.1)
      ∙ asks _ _ _ _ _ _ (file_types_flag a (file_is a parts.0))

  says_flag_details_file : (is_flag a && (is_details_flag b && is_file c)) ≡ true → asked three ≡ asked_of true false true None c
  says_flag_details_file h =
      let parts = both _ _ h in
      let rest = both _ _ parts.1 in
      ap₂ (λ v w. asked (v ∷ w ∷ c ∷ [])) (flag_is a parts.0) (details_is b rest.0)
      ∙ asks _ _ _ _ _ _ (flag_details_file c (file_is c rest.1))

  says_details_flag_file : (is_details_flag a && (is_flag b && is_file c)) ≡ true → asked three ≡ asked_of true false true None c
  says_details_flag_file h =
      let parts = both _ _ h in
      let rest = both _ _ parts.1 in
      ap₂ (λ v w. asked (v ∷ w ∷ c ∷ [])) (details_is a parts.0) (flag_is b rest.0)
      ∙ asks _ _ _ _ _ _ (details_flag_file c (file_is c rest.1))

  says_flag_file_details : (is_flag a && (is_file b && is_details_flag c)) ≡ true → asked three ≡ asked_of true false true None b
  says_flag_file_details h =
      let parts = both _ _ h in
      let rest = both _ _ parts.1 in
      ap₂ (λ v w. asked (v ∷ b ∷ w ∷ [])) (flag_is a parts.0) (details_is c rest.1)
      ∙ asks _ _ _ _ _ _ (flag_file_details b (file_is b rest.0))

  says_details_file_flag : (is_details_flag a && (is_file b && is_flag c)) ≡ true → asked three ≡ asked_of true false true None b
  says_details_file_flag h =
      let parts = both _ _ h in
      let rest = both _ _ parts.1 in
      ap₂ (λ v w. asked (v ∷ b ∷ w ∷ [])) (details_is a parts.0) (flag_is c rest.1)
      ∙ asks _ _ _ _ _ _ (details_file_flag b (file_is b rest.0))

  says_file_flag_details : (is_file a && (is_flag b && is_details_flag c)) ≡ true → asked three ≡ asked_of true false true None a
  says_file_flag_details h =
      let parts = both _ _ h in
      let rest = both _ _ parts.1 in
      ap₂ (λ v w. asked (a ∷ v ∷ w ∷ [])) (flag_is b rest.0) (details_is c rest.1)
      ∙ asks _ _ _ _ _ _ (file_flag_details a (file_is a parts.0))

  says_file_details_flag : (is_file a && (is_details_flag b && is_flag c)) ≡ true → asked three ≡ asked_of true false true None a
  says_file_details_flag h =
      let parts = both _ _ h in
      let rest = both _ _ parts.1 in
      ap₂ (λ v w. asked (a ∷ v ∷ w ∷ [])) (details_is b rest.0) (flag_is c rest.1)
      ∙ asks _ _ _ _ _ _ (file_details_flag a (file_is a parts.0))

  three_words : AllSay three (readings three)
  three_words = (
    says_choice_file,
    (
      says_file_choice,
      (
        says_flag_types_file,
        (
          says_types_flag_file,
          (
            says_flag_file_types,
            (
              says_types_file_flag,
              (
                says_file_flag_types,
                (
                  says_file_types_flag,
                  (
                    says_flag_details_file,
                    (
                      says_details_flag_file,
                      (
                        says_flag_file_details,
                        (says_details_file_flag, (says_file_flag_details, (says_file_details_flag, tt))),
                      ),
                    ),
                  ),
                ),
              ),
            ),
          ),
        ),
      ),
    ),
  )

module _ (a b c d : Text) where
  abbrev four : List Text
  four = a ∷ b ∷ c ∷ d ∷ []

  says_flag_choice_file : (is_flag a && (is_choice b c && is_file d)) ≡ true → asked four ≡ asked_of true false false (Some c)
      d
  says_flag_choice_file h =
      let parts = both _ _ h in
      let rest = both _ _ parts.1 in
      ap₂ (λ v w. asked (v ∷ w ∷ c ∷ d ∷ [])) (flag_is a parts.0) (name_is b c rest.0)
      ∙ asks _ _ _ _ _ _ (flag_choice_file c d (number_is b c rest.0) (file_is d rest.1))

  says_flag_file_choice : (is_flag a && (is_file b && is_choice c d)) ≡ true → asked four ≡ asked_of true false false (Some d)
      b
  says_flag_file_choice h =
      let parts = both _ _ h in
      let rest = both _ _ parts.1 in
      ap₂ (λ v w. asked (v ∷ b ∷ w ∷ d ∷ [])) (flag_is a parts.0) (name_is c d rest.1)
      ∙ asks _ _ _ _ _ _ (flag_file_choice d b (number_is c d rest.1) (file_is b rest.0))

  says_choice_flag_file : (is_choice a b && (is_flag c && is_file d)) ≡ true → asked four ≡ asked_of true false false (Some b)
      d
  says_choice_flag_file h =
      let parts = both _ _ h in
      let rest = both _ _ parts.1 in
      ap₂ (λ v w. asked (v ∷ b ∷ w ∷ d ∷ [])) (name_is a b parts.0) (flag_is c rest.0)
      ∙ asks _ _ _ _ _ _ (choice_flag_file b d (number_is a b parts.0) (file_is d rest.1))

  says_choice_file_flag : (is_choice a b && (is_file c && is_flag d)) ≡ true → asked four ≡ asked_of true false false (Some b)
      c
  says_choice_file_flag h =
      let parts = both _ _ h in
      let rest = both _ _ parts.1 in
      ap₂ (λ v w. asked (v ∷ b ∷ c ∷ w ∷ [])) (name_is a b parts.0) (flag_is d rest.1)
      ∙ asks _ _ _ _ _ _ (choice_file_flag b c (number_is a b parts.0) (file_is c rest.0))

  says_file_flag_choice : (is_file a && (is_flag b && is_choice c d)) ≡ true → asked four ≡ asked_of true false false (Some d)
      a
  says_file_flag_choice h =
      let parts = both _ _ h in
      let rest = both _ _ parts.1 in
      ap₂ (λ v w. asked (a ∷ v ∷ w ∷ d ∷ [])) (flag_is b rest.0) (name_is c d rest.1)
      ∙ asks _ _ _ _ _ _ (file_flag_choice d a (number_is c d rest.1) (file_is a parts.0))

  says_file_choice_flag : (is_file a && (is_choice b c && is_flag d)) ≡ true → asked four ≡ asked_of true false false (Some c)
      a
  says_file_choice_flag h =
      let parts = both _ _ h in
      let rest = both _ _ parts.1 in
      ap₂ (λ v w. asked (a ∷ v ∷ c ∷ w ∷ [])) (name_is b c rest.0) (flag_is d rest.1)
      ∙ asks _ _ _ _ _ _ (file_choice_flag c a (number_is b c rest.0) (file_is a parts.0))

  four_words : AllSay four (readings four)
  four_words = (
    says_flag_choice_file,
    (
      says_flag_file_choice,
      (says_choice_flag_file, (says_choice_file_flag, (says_file_flag_choice, (says_file_choice_flag, tt)))),
    ),
  )

-- the request of plain words is the one that is defined without `clap`
pub plain_words : (words : List Text) → are_plain words ≡ true → asked words ≡ plainly_asked words
plain_words [] e = absurd (true≢false (sym e))
plain_words (a ∷ []) e = first_says (a ∷ []) (readings (a ∷ [])) (one_word a) e
plain_words (a ∷ b ∷ []) e = first_says (a ∷ b ∷ []) (readings (a ∷ b ∷ [])) (two_words a b) e
plain_words (a ∷ b ∷ c ∷ []) e = first_says (a ∷ b ∷ c ∷ []) (readings (a ∷ b ∷ c ∷ [])) (three_words a b c) e
plain_words (a ∷ b ∷ c ∷ d ∷ []) e = first_says (a ∷ b ∷ c ∷ d ∷ []) (readings (a ∷ b ∷ c ∷ d ∷ []))
    (four_words a b c d) e
plain_words (a ∷ b ∷ c ∷ d ∷ other ∷ more) e = absurd (true≢false (sym e))
