-- The first byte of a piece decides its sort.
use Rattle.std.proofs.Common.{◌≡◌, ℕ, List, [], ◌∷◌, Bool, true, false, ◌||◌, ◌==◌, ◌⊎◌, length, get_or, refl, sym, ap}
use Rattle.std.proofs.Common.{◌∙◌, inl, inr, arith, if◌then◌else◌}
use Rattle.std.specs.Char.{is_ascii_digit}
use Rattle.std.proofs.lemmas.Bool.Decides.{nat_tests}
use Rattle.pc_token.specs.declared.operators.Role.{Role}
use Rattle.pc_token.specs.declared.operators.Role.TheVariants as r
use Rattle.pc_token.specs.declared.token.Operator.{Operator}
use Rattle.pc_token.specs.declared.token.Operator.TheVariants as o
use Rattle.pc_token.specs.declared.token.TokenKind.{TokenKind}
use Rattle.pc_token.specs.declared.token.TokenKind.TheVariants as t
use Rattle.pc_token.specs.Gaps.{is_blank, is_line_byte}
use Rattle.pc_token.specs.Operators.{operator_text, role_of}
use Rattle.pc_token.specs.Spelling.{IsToken}
use Rattle.pc_token.specs.Strings.{is_quote}
use Rattle.pc_token.proofs.Leads.{is_letter, lead_of}

pub data Start : Type 0 where
  Blank : Start
  Hash : Start
  Feed : Start
  Quoted : Start
  Numeric : Start
  Wordy : Start
  Signed : Start

-- the start that a byte is
abbrev pub start_of : ℕ → Start
start_of b =
    if is_blank b then Blank else if b == 35 then Hash else if is_line_byte b then Feed else if is_quote b then Quoted
    else if is_ascii_digit b then Numeric else if is_letter b then Wordy else Signed

pub blank_start : (b : ℕ) → is_blank b ≡ true → start_of b ≡ Blank
blank_start b h = rw h

pub hash_start : (b : ℕ) → b ≡ 35 → start_of b ≡ Hash
hash_start b e = rw e

either : (a b : Bool) → (a || b) ≡ true → (a ≡ true) ⊎ (b ≡ true)
either true b h = inl refl
either false b h = inr h

number_is : (a b : ℕ) → (a == b) ≡ true → a ≡ b
number_is a b h = grind (arith, nat_tests)

pub feed_start : (b : ℕ) → is_line_byte b ≡ true → start_of b ≡ Feed
feed_start b h = elim (either (b == 10) (b == 13) h) [ inl x ↦ rw (number_is b 10 x) | inr x ↦ rw (number_is b 13 x) ]

pub quote_start : (b : ℕ) → is_quote b ≡ true → start_of b ≡ Quoted
quote_start b h = elim (either (b == 34) (b == 39) h) [ inl x ↦ rw (number_is b 34 x) | inr x ↦ rw (number_is b 39 x) ]

digit_gap : (b : ℕ) → is_ascii_digit b ≡ true → (is_blank b ≡ false) × ((b == 35) ≡ false) × (is_line_byte b ≡ false)
    × (is_quote b ≡ false)
digit_gap b h = (grind (arith, nat_tests), grind (arith, nat_tests), grind (arith, nat_tests), grind (arith, nat_tests))

letter_gap : (b : ℕ) → is_letter b ≡ true → (is_blank b ≡ false) × ((b == 35) ≡ false) × (is_line_byte b ≡ false)
    × (is_quote b ≡ false) × (is_ascii_digit b ≡ false)
letter_gap b h = (
  grind (arith, nat_tests),
  grind (arith, nat_tests),
  grind (arith, nat_tests),
  grind (arith, nat_tests),
  grind (arith, nat_tests),
)

pub digit_start : (b : ℕ) → is_ascii_digit b ≡ true → start_of b ≡ Numeric
digit_start b h = let (blank, hash, line, quote) = digit_gap b h in rw (blank, hash, line, quote, h)

pub letter_start : (b : ℕ) → is_letter b ≡ true → start_of b ≡ Wordy
letter_start b h = let (blank, hash, line, quote, digit) = letter_gap b h in rw (blank, hash, line, quote, digit, h)

pub operator_start : (x : Operator) → start_of (get_or (operator_text x) 0 0) ≡ Signed
operator_start o.Plus = refl
operator_start _ = refl

-- the role of an operator that begins so
abbrev pub role_by_byte : ℕ → Role
role_by_byte b =
    if (b == 40 || b == 91) || b == 123 then r.Opens else if b == 41 then r.Closes o.LeftParenthesis
    else if b == 93 then r.Closes o.LeftBracket else if b == 125 then r.Closes o.LeftBrace else r.Plain

pub role_is : (x : Operator) → role_of x ≡ role_by_byte (get_or (operator_text x) 0 0)
role_is o.Plus = refl
role_is _ = refl

-- the start of a token of this kind
abbrev pub start_of_kind : TokenKind → Start
start_of_kind t.Name = Wordy
start_of_kind (t.Keyword _) = Wordy
start_of_kind t.Int = Numeric
start_of_kind t.Str = Quoted
start_of_kind _ = Signed

pub kind_start : (kind : TokenKind) (bytes : List ℕ) → IsToken kind bytes → start_of (get_or bytes 0 0) ≡ start_of_kind
    kind
kind_start t.Name bytes h = letter_start (get_or bytes 0 0) (lead_of t.Name bytes h)
kind_start t.Int bytes h = digit_start (get_or bytes 0 0) (lead_of t.Int bytes h)
kind_start t.Str bytes h = quote_start (get_or bytes 0 0) (lead_of t.Str bytes h)
kind_start (t.Keyword k) bytes h = letter_start (get_or bytes 0 0) (lead_of (t.Keyword k) bytes h)
kind_start (t.Operator x) bytes h = ap (λ y. start_of (get_or y 0 0)) (sym h) ∙ operator_start x
kind_start t.Newline bytes h = absurd h
kind_start t.Indent bytes h = absurd h
kind_start t.Dedent bytes h = absurd h
kind_start t.End bytes h = absurd h

pub some_token : (kind : TokenKind) (bytes : List ℕ) → IsToken kind bytes → length bytes ≡ 0 → ⊥
some_token t.Name [] h e = let lead = lead_of t.Name [] h in cc
some_token t.Int [] h e = let lead = lead_of t.Int [] h in cc
some_token t.Str [] h e = let lead = lead_of t.Str [] h in cc
some_token (t.Keyword k) [] h e = let lead = lead_of (t.Keyword k) [] h in cc
some_token (t.Operator x) [] h e = let lead = lead_of (t.Operator x) [] h in cc
some_token t.Newline bytes h e = h
some_token t.Indent bytes h e = h
some_token t.Dedent bytes h e = h
some_token t.End bytes h e = h
some_token _ (b ∷ bs) h e = omega arith
