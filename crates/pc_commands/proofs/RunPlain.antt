-- Plain words: `--fuel` and a number, `--choices` and a word or neither, and a file; no number, word or file begins with a
-- dash.
use Rattle.std.proofs.Common.{◌≡◌, ◌∙◌, refl, sym, ap, true, false, true≢false, List, [], ◌∷◌, Option, Some, None, codes}
use Rattle.std.specs.Prelude.{option_and_then, unwrap_or}
use Rattle.clap.proofs.WalkLemmas.{both}
use Rattle.std.proofs.lemmas.Bool.{not-true}
use Rattle.std.proofs.lemmas.Slice.Eq.{bytes_eq-Decides}
use Rattle.clap.specs.Words.{Kinds, Text}
use Rattle.clap.proofs.OnLiterals.{clap_on_literals}
use Rattle.pc_commands.specs.RunWords.{are_plain, asked, faults, fuel_in, plainly_asked, argument_value, with_file}
use Rattle.pc_commands.specs.Faults.{begins_with_dash, without_faults}
use Rattle.pc_commands.proofs.SaidOfFaults.{long_none, not_dashes, short_none}

-- what `clap` makes of words: its faults, and the values of the three arguments
abbrev Found : Type 0
Found = Kinds × Option Text × Option Text × Option Text

abbrev found : List Text → Found
found words = (
  faults words,
  argument_value (codes "fuel") words,
  argument_value (codes "choices") words,
  argument_value (codes "file") words,
)

-- what is asked, by what `clap` makes of the words
asks : (words : List Text) (number word file : Option Text) → found words ≡ ([], number, word, file)
    → asked words ≡ with_file (option_and_then fuel_in number) (unwrap_or word []) file
asks words number word file is = ap (λ (all : Found). without_faults all.0
    (with_file (option_and_then fuel_in all.1) (unwrap_or all.2 []) all.3)) is

fuel_file : (n f : Text) → begins_with_dash n ≡ false → begins_with_dash f ≡ false
    → found (codes "--fuel" ∷ n ∷ f ∷ []) ≡ ([], Some n, None, Some f)
unfolding clap_on_literals
fuel_file n f bn bf = rw (
  not_dashes n bn,
  long_none n bn,
  short_none n bn,
  not_dashes f bf,
  long_none f bf,
  short_none f bf,
) refl

fuel_choices_file : (n w f : Text) → begins_with_dash n ≡ false → begins_with_dash w ≡ false → begins_with_dash f ≡ false
    → found (codes "--fuel" ∷ n ∷ codes "--choices" ∷ w ∷ f ∷ []) ≡ ([], Some n, Some w, Some f)
unfolding clap_on_literals
fuel_choices_file n w f bn bw bf = rw (
  not_dashes n bn,
  long_none n bn,
  short_none n bn,
  not_dashes w bw,
  long_none w bw,
  short_none w bw,
  not_dashes f bf,
  long_none f bf,
  short_none f bf,
) refl

-- three plain words
three_words : (flag number file : Text) → are_plain (flag ∷ number ∷ file ∷ []) ≡ true
    → asked (flag ∷ number ∷ file ∷ []) ≡ plainly_asked (flag ∷ number ∷ file ∷ [])
three_words flag number file e =
    let outer = both _ _ e in
    let inner = both _ _ outer.1 in
    let is_flag : flag ≡ codes "--fuel" = (bytes_eq-Decides flag (codes "--fuel")).0 outer.0 in
    ap (λ w. asked (w ∷ number ∷ file ∷ [])) is_flag
    ∙ asks _ _ _ _ (fuel_file number file (not-true _ inner.0) (not-true _ inner.1))

-- five plain words
five_words : (flag number second word file : Text) → are_plain (flag ∷ number ∷ second ∷ word ∷ file ∷ []) ≡ true
    → asked (flag ∷ number ∷ second ∷ word ∷ file ∷ []) ≡ plainly_asked (flag ∷ number ∷ second ∷ word ∷ file ∷ [])
five_words flag number second word file e =
    let outer = both _ _ e in
    let first = both _ _ outer.0 in
    let rest = both _ _ outer.1 in
    let middle = both _ _ rest.0 in
    let is_flag : flag ≡ codes "--fuel" = (bytes_eq-Decides flag (codes "--fuel")).0 first.0 in
    let is_second : second ≡ codes "--choices" = (bytes_eq-Decides second (codes "--choices")).0 middle.0 in
    ap (λ w. asked (w ∷ number ∷ second ∷ word ∷ file ∷ [])) is_flag
    ∙ ap (λ w. asked (codes "--fuel" ∷ number ∷ w ∷ word ∷ file ∷ [])) is_second
    ∙ asks _ _ _ _ (fuel_choices_file number word file (not-true _ first.1) (not-true _ middle.1) (not-true _ rest.1))

-- the request of plain words is the one that is defined without `clap`
pub plain_words : (words : List Text) → are_plain words ≡ true → asked words ≡ plainly_asked words
plain_words [] e = absurd (true≢false (sym e))
plain_words (a ∷ []) e = absurd (true≢false (sym e))
plain_words (a ∷ b ∷ []) e = absurd (true≢false (sym e))
plain_words (a ∷ b ∷ c ∷ []) e = three_words a b c e
plain_words (a ∷ b ∷ c ∷ d ∷ []) e = absurd (true≢false (sym e))
plain_words (a ∷ b ∷ c ∷ d ∷ f ∷ []) e = five_words a b c d f e
plain_words (a ∷ b ∷ c ∷ d ∷ f ∷ other ∷ more) e = absurd (true≢false (sym e))
