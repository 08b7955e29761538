-- A number is the longest token at its place.
use Rattle.std.proofs.Common.{◌≡◌, ℕ, ◌<◌, List, [], ◌∷◌, ◌++◌, Bool, true, false, not, ◌&&◌, ◌||◌, ◌==◌, ◌⊎◌, length}
use Rattle.std.proofs.Common.{get_or, refl, sym, ap, ◌∙◌, inl, inr, arith}
use Rattle.std.specs.Prelude.{bytes_eq}
use Rattle.std.specs.Char.{is_ascii_digit}
use Rattle.std.specs.List.{list_all}
use Rattle.std.proofs.lemmas.Bool.{cases_Bool, and_parts}
use Rattle.std.proofs.lemmas.Slice.Eq.{bytes_eq-Decides}
use Rattle.std.proofs.lemmas.List.Folds.{list_all-append}
use Rattle.std.proofs.Math.ListN.{get_or-append}
use Rattle.pc_token.specs.declared.token.TokenKind.TheVariants as t
use Rattle.pc_token.specs.Names.{continues_word}
use Rattle.pc_token.specs.Numbers.{is_number, is_number_byte, underscores_fit, is_bad_number, number_run, after_number}
use Rattle.pc_token.specs.Spelling.{IsLongest}
use Rattle.pc_token.proofs.Leads.{lead_of, digit_token}
use Rattle.pc_token.proofs.Runs.{stops}

number_bytes : (bs : List ℕ) → is_number bs ≡ true → list_all is_number_byte bs ≡ true
number_bytes bs h = elim (cases_Bool (bytes_eq bs (48 ∷ []))) [
  | inl zero_alone ↦ ap (list_all is_number_byte) ((bytes_eq-Decides bs (48 ∷ [])).0 zero_alone)
  | inr other ↦
      let rest : ((is_ascii_digit (get_or bs 0 0) && not (get_or bs 0 0 == 48))
      && (list_all is_number_byte bs && underscores_fit bs)) ≡ true = rw other at h in
      (and_parts (list_all is_number_byte bs) (underscores_fit bs)
      (and_parts (is_ascii_digit (get_or bs 0 0) && not (get_or bs 0 0 == 48))
      (list_all is_number_byte bs && underscores_fit bs) rest).1).0
]

fits : (a b : Bool) → (not a || b) ≡ false → a ≡ true
fits true b h = refl
fits false b h = let no : true ≡ false = h in let bad : ⊥ = cc in absurd bad

-- the digits and underscores at the front are a number, where none is refused
pub number_here : (text : List ℕ) → is_bad_number text ≡ false → is_number (number_run text) ≡ true
number_here text h = fits (is_number (number_run text)) (continues_word (after_number text)
    || get_or (after_number text) 0 0 == 46) h

some : (bs : List ℕ) → is_ascii_digit (get_or bs 0 0) ≡ true → 0 < length bs
some [] h = let no : ⊥ = cc in absurd no
some (b ∷ bs) h = omega arith

no_more : (run rest more after : List ℕ) → (length rest ≡ 0) ⊎ (is_number_byte (get_or rest 0 0) ≡ false)
    → rest ≡ more ++ after → list_all is_number_byte (run ++ more) ≡ true → more ≡ []
no_more run rest [] after stop e all = refl
no_more run rest (m ∷ ms) after stop e all =
    let parts = sym (list_all-append is_number_byte run (m ∷ ms)) ∙ all in
    let later = (and_parts (list_all is_number_byte run) (list_all is_number_byte (m ∷ ms)) parts).1 in
    let here = (and_parts (is_number_byte m) (list_all is_number_byte ms) later).0 in
    let first : get_or rest 0 0 ≡ m = ap (λ x. get_or x 0 0) e in
    let len : length rest ≡ length (m ∷ (ms ++ after)) = ap length e in
    elim stop [
      | inl nothing ↦ absurd (omega arith)
      | inr other ↦ let no : is_number_byte m ≡ false = rw (← first) other in let bad : ⊥ = cc in absurd bad
    ]

-- and no longer token begins
pub number_longest : (text : List ℕ) → is_bad_number text ≡ false
    → IsLongest t.Int (number_run text) (after_number text)
number_longest text h =
    let number = number_here text h in
    let digit = lead_of t.Int (number_run text) number in
    record {
      token = number;
      longest = λ other more after e token.
          let lead : is_ascii_digit (get_or (number_run text ++ more) 0 0) ≡ true =
          rw (get_or-append (number_run text) more 0 0 (some (number_run text) digit)) digit in
          no_more (number_run text) (after_number text) more after (stops is_number_byte text) e
          (number_bytes (number_run text ++ more) (digit_token (number_run text ++ more) other lead token));
    }
