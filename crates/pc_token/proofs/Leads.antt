-- The first byte of a token decides its sort.
use Rattle.std.proofs.Common.{◌≡◌, ℕ, ◌<◌, ◌≤◌, List, [], ◌∷◌, ◌++◌, Bool, true, false, not, ◌&&◌, ◌||◌, ◌==◌, length}
use Rattle.std.proofs.Common.{get_or, refl, ap, ◌∙◌, subst, inl, inr, arith, encode_utf8_all, length-append, ◌⊎◌}
use Rattle.std.specs.Prelude.{nat_le, encode_utf8, bytes_eq}
use Rattle.std.specs.Char.{is_ascii_alphabetic, is_ascii_digit}
use Rattle.std.specs.List.{list_all}
use Rattle.std.proofs.lemmas.Bool.{cases_lt, cases_Bool, and_parts}
use Rattle.std.proofs.lemmas.Bool.Decides.{nat_tests}
use Rattle.std.proofs.lemmas.Slice.Eq.{bytes_eq-Decides}
use Rattle.std.proofs.lemmas.Str.{byte_from_char, char_from_byte, length-encode, len_utf8_bounds}
use Rattle.unicode_ident.proofs.IdentLemmas.{is_xid_start-ascii}
use Rattle.pc_token.specs.declared.token.Keyword.{Keyword}
use Rattle.pc_token.specs.declared.token.Operator.{Operator}
use Rattle.pc_token.specs.declared.token.Keyword.TheVariants as k
use Rattle.pc_token.specs.declared.token.Operator.TheVariants as o
use Rattle.pc_token.specs.declared.token.TokenKind.{TokenKind}
use Rattle.pc_token.specs.declared.token.TokenKind.TheVariants as t
use Rattle.pc_token.specs.Gaps.{is_blank, is_line_byte}
use Rattle.pc_token.specs.Keywords.{keyword_text}
use Rattle.pc_token.specs.Names.{begins_name, IsName}
use Rattle.pc_token.specs.Numbers.{is_number, is_number_byte, underscores_fit}
use Rattle.pc_token.specs.Operators.{operator_text}
use Rattle.pc_token.specs.Spelling.{IsToken}
use Rattle.pc_token.specs.Strings.{is_quote, IsString}

-- an ASCII letter, an underscore, or a byte of another character
abbrev pub is_letter : ℕ → Bool
is_letter b = is_ascii_alphabetic b || (b == 95 || nat_le 128 b)

-- a byte that begins neither a word, a number, a string, a gap nor a line end
abbrev pub is_sign : ℕ → Bool
is_sign b = ((not (b == 0) && not (is_letter b)) && (not (is_ascii_digit b) && not (is_quote b)))
    && (not (is_blank b) && (not (b == 35) && not (is_line_byte b)))

abbrev pub leads : TokenKind → ℕ → Bool
leads t.Name b = is_letter b
leads (t.Keyword _) b = is_letter b
leads t.Int b = is_ascii_digit b
leads t.Str b = is_quote b
leads (t.Operator _) b = is_sign b
leads _ b = false

lead_operator : (o : Operator) → is_sign (get_or (operator_text o) 0 0) ≡ true
lead_operator o.Plus = refl
lead_operator _ = refl

lead_keyword : (k : Keyword) → is_letter (get_or (keyword_text k) 0 0) ≡ true
lead_keyword k.False = refl
lead_keyword _ = refl

lead_number : (bytes : List ℕ) → is_number bytes ≡ true → is_ascii_digit (get_or bytes 0 0) ≡ true
lead_number bytes h = elim (cases_Bool (bytes_eq bytes (48 ∷ []))) [
  | inl zero_alone ↦ ap (λ x. is_ascii_digit (get_or x 0 0)) ((bytes_eq-Decides bytes (48 ∷ [])).0 zero_alone)
  | inr other ↦
      let rest : ((is_ascii_digit (get_or bytes 0 0) && not (get_or bytes 0 0 == 48))
      && (list_all is_number_byte bytes && underscores_fit bytes)) ≡ true =
      rw other at h in
      (and_parts _ _ (and_parts _ _ rest).0).0
]

letter_below : (c : ℕ) → c < 128 → begins_name c ≡ true → is_letter c ≡ true
letter_below c low h =
    let same : (is_ascii_alphabetic c || (c == 95)) ≡ true = rw (is_xid_start-ascii c low) at h in
    grind (arith, nat_tests)

letter_above : (b : ℕ) → 128 ≤ b → is_letter b ≡ true
letter_above b h = grind (arith, nat_tests)

-- a text whose first character may begin a name begins with a letter
pub first_letter : (c : ℕ) (bs rest : List ℕ) → bs ≡ encode_utf8 c ++ rest → 0 < length bs → begins_name c ≡ true
    → is_letter (get_or bs 0 0) ≡ true
first_letter c bs rest e some begins = elim (cases_lt c 128) [
  | inl low ↦ rw (byte_from_char bs rest c e low) (letter_below c low begins)
  | inr high ↦ elim (cases_lt (get_or bs 0 0) 128) [
    | inl ascii ↦ let same = char_from_byte bs rest c e ascii some in absurd (omega arith)
    | inr wide ↦ letter_above _ wide
  ]
]

pub some_bytes : (c : ℕ) (bs rest : List ℕ) → bs ≡ encode_utf8 c ++ rest → 0 < length bs
some_bytes c bs rest e =
    let n = len_utf8_bounds c in
    rw e (rw length-append (omega (arith, length-encode c)))

pub lead_name : (bytes : List ℕ) → IsName bytes → is_letter (get_or bytes 0 0) ≡ true
lead_name bytes (c, cs, begins, goes, is) = first_letter c bytes (encode_utf8_all cs) is
    (some_bytes c bytes (encode_utf8_all cs) is) begins

lead_string : (bytes : List ℕ) → IsString bytes → is_quote (get_or bytes 0 0) ≡ true
lead_string bytes (q, body, quote, h, is) = ap (λ x. is_quote (get_or x 0 0)) is ∙ quote

-- each token begins as its kind does
pub lead_of : (kind : TokenKind) (bytes : List ℕ) → IsToken kind bytes → leads kind (get_or bytes 0 0) ≡ true
lead_of t.Name bytes h = lead_name bytes h.0
lead_of t.Int bytes h = lead_number bytes h
lead_of t.Str bytes h = lead_string bytes h
lead_of (t.Keyword k) bytes h = subst (λ x. is_letter (get_or x 0 0) ≡ true) h (lead_keyword k)
lead_of (t.Operator o) bytes h = subst (λ x. is_sign (get_or x 0 0) ≡ true) h (lead_operator o)
lead_of t.Newline bytes h = absurd h
lead_of t.Indent bytes h = absurd h
lead_of t.Dedent bytes h = absurd h
lead_of t.End bytes h = absurd h

digit_no_letter : (b : ℕ) → is_ascii_digit b ≡ true → is_letter b ≡ true → ⊥
digit_no_letter b h g = grind (arith, nat_tests)

digit_no_quote : (b : ℕ) → is_ascii_digit b ≡ true → is_quote b ≡ true → ⊥
digit_no_quote b h g = grind (arith, nat_tests)

quote_no_letter : (b : ℕ) → is_quote b ≡ true → is_letter b ≡ true → ⊥
quote_no_letter b h g = grind (arith, nat_tests)

sign_no_letter : (b : ℕ) → is_sign b ≡ true → is_letter b ≡ true → ⊥
sign_no_letter b h g = grind (arith, nat_tests)

sign_no_digit : (b : ℕ) → is_sign b ≡ true → is_ascii_digit b ≡ true → ⊥
sign_no_digit b h g = grind (arith, nat_tests)

sign_no_quote : (b : ℕ) → is_sign b ≡ true → is_quote b ≡ true → ⊥
sign_no_quote b h g = grind (arith, nat_tests)

module _ (bytes : List ℕ) where
  -- a token that begins with a digit is a number
  pub digit_token : (kind : TokenKind) → is_ascii_digit (get_or bytes 0 0) ≡ true → IsToken kind bytes
      → is_number bytes ≡ true
  digit_token t.Name d h = absurd (digit_no_letter (get_or bytes 0 0) d (lead_of t.Name bytes h))
  digit_token t.Int d h = h
  digit_token t.Str d h = absurd (digit_no_quote (get_or bytes 0 0) d (lead_of t.Str bytes h))
  digit_token (t.Keyword k) d h = absurd (digit_no_letter (get_or bytes 0 0) d (lead_of (t.Keyword k) bytes h))
  digit_token (t.Operator o) d h = absurd (sign_no_digit (get_or bytes 0 0) (lead_of (t.Operator o) bytes h) d)
  digit_token t.Newline d h = absurd h
  digit_token t.Indent d h = absurd h
  digit_token t.Dedent d h = absurd h
  digit_token t.End d h = absurd h

  -- a token that begins with a quote is a string
  pub quote_token : (kind : TokenKind) → is_quote (get_or bytes 0 0) ≡ true → IsToken kind bytes → IsString bytes
  quote_token t.Name d h = absurd (quote_no_letter (get_or bytes 0 0) d (lead_of t.Name bytes h))
  quote_token t.Int d h = absurd (digit_no_quote (get_or bytes 0 0) (lead_of t.Int bytes h) d)
  quote_token t.Str d h = h
  quote_token (t.Keyword k) d h = absurd (quote_no_letter (get_or bytes 0 0) d (lead_of (t.Keyword k) bytes h))
  quote_token (t.Operator o) d h = absurd (sign_no_quote (get_or bytes 0 0) (lead_of (t.Operator o) bytes h) d)
  quote_token t.Newline d h = absurd h
  quote_token t.Indent d h = absurd h
  quote_token t.Dedent d h = absurd h
  quote_token t.End d h = absurd h

  -- a token that begins with another sign is an operator
  pub sign_token : (kind : TokenKind) → is_sign (get_or bytes 0 0) ≡ true → IsToken kind bytes → (o : Operator)
      × (operator_text o ≡ bytes)
  sign_token t.Name d h = absurd (sign_no_letter (get_or bytes 0 0) d (lead_of t.Name bytes h))
  sign_token t.Int d h = absurd (sign_no_digit (get_or bytes 0 0) d (lead_of t.Int bytes h))
  sign_token t.Str d h = absurd (sign_no_quote (get_or bytes 0 0) d (lead_of t.Str bytes h))
  sign_token (t.Keyword k) d h = absurd (sign_no_letter (get_or bytes 0 0) d (lead_of (t.Keyword k) bytes h))
  sign_token (t.Operator o) d h = (o, h)
  sign_token t.Newline d h = absurd h
  sign_token t.Indent d h = absurd h
  sign_token t.Dedent d h = absurd h
  sign_token t.End d h = absurd h

  -- a token that begins with a letter is a name or a keyword
  pub letter_token : (kind : TokenKind) → is_letter (get_or bytes 0 0) ≡ true → IsToken kind bytes → IsName bytes
      ⊎ ((k : Keyword) × (keyword_text k ≡ bytes))
  letter_token t.Name d h = inl h.0
  letter_token t.Int d h = absurd (digit_no_letter (get_or bytes 0 0) (lead_of t.Int bytes h) d)
  letter_token t.Str d h = absurd (quote_no_letter (get_or bytes 0 0) (lead_of t.Str bytes h) d)
  letter_token (t.Keyword k) d h = inr (k, h)
  letter_token (t.Operator o) d h = absurd (sign_no_letter (get_or bytes 0 0) (lead_of (t.Operator o) bytes h) d)
  letter_token t.Newline d h = absurd h
  letter_token t.Indent d h = absurd h
  letter_token t.Dedent d h = absurd h
  letter_token t.End d h = absurd h
