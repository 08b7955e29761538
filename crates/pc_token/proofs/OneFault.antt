-- There is at most one refusal at a place.
use Rattle.std.proofs.Common.{◌≡◌, ℕ, zero, suc, ◌<◌, List, [], ◌∷◌, ◌++◌, true, false, ◌==◌, ◌⊎◌, length, take, get_or}
use Rattle.std.proofs.Common.{refl, sym, ap, ◌∙◌, subst, inl, inr, arith, length-append, if◌then◌else◌}
use Rattle.std.specs.Char.{is_ascii_digit}
use Rattle.std.specs.List.{prefix_len, list_all}
use Rattle.std.proofs.lemmas.Bool.{and_parts, cases_Bool}
use Rattle.std.proofs.lemmas.Bool.Decides.{nat_tests}
use Rattle.std.proofs.lemmas.List.{get_or-take, length-take-le}
use Rattle.std.proofs.lemmas.List.Sums.{prefix_len_is}
use Rattle.pc_source.specs.declared.fault.RefusalCode.{RefusalCode}
use Rattle.pc_source.specs.declared.fault.RefusalCode.TheVariants.{S1, L1, L2, L3, L4, L5, L6, L7, L8}
use Rattle.pc_token.specs.declared.operators.Role.{Role}
use Rattle.pc_token.specs.declared.operators.Role.TheVariants as r
use Rattle.pc_token.specs.declared.token.Operator.{Operator}
use Rattle.pc_token.specs.declared.token.Operator.TheVariants as o
use Rattle.pc_token.specs.declared.token.TokenKind.TheVariants as t
use Rattle.pc_token.specs.Context.{LexicalContext}
use Rattle.pc_token.specs.Faults.{IsFault, IsStray, IsBadDigits, IsBadTab, IsBadClosing}
use Rattle.pc_token.specs.Gaps.{is_blank, is_line_byte}
use Rattle.pc_token.specs.Strings.{is_quote}
use Rattle.pc_token.proofs.Leads.{is_letter}
use Rattle.pc_token.specs.Numbers.{is_number, is_bad_number, is_bad_point}
use Rattle.pc_token.specs.Operators.{operator_text, role_of}
use Rattle.pc_token.proofs.Lists.{list_all-at}
use Rattle.pc_token.proofs.OnePiece.{first_of}
use Rattle.pc_token.proofs.Starts.{Start, Blank, Hash, Feed, Quoted, Numeric, Wordy, Signed, start_of, feed_start}
use Rattle.pc_token.proofs.Starts.{quote_start, digit_start, letter_start, kind_start, operator_start, role_by_byte}
use Rattle.pc_token.proofs.Starts.{role_is, some_token}

pub number_same : (a b : ℕ) → (a == b) ≡ true → a ≡ b
number_same a b h = grind (arith, nat_tests)

abbrev pub code_by_role : Role → RefusalCode
code_by_role r.Opens = L6
code_by_role (r.Closes _) = L5
code_by_role r.Plain = L3

abbrev pub code_by_start : Start → List ℕ → RefusalCode
code_by_start Blank text = L7
code_by_start Hash text = L1
code_by_start Feed text = L1
code_by_start Quoted text = L2
code_by_start Numeric text = if is_bad_number text then L3 else L8
code_by_start Wordy text = L4
code_by_start Signed text = code_by_role (role_by_byte (get_or text 0 0))

-- the code that a refusal has which stands here, but for a stray character
abbrev pub code_at : List ℕ → RefusalCode
code_at [] = L5
code_at (b ∷ bs) = code_by_start (start_of b) (b ∷ bs)

at_start : (text : List ℕ) (st : Start) → (length text ≡ 0 → ⊥) → start_of (get_or text 0 0) ≡ st
    → code_at text ≡ code_by_start st text
at_start [] st some e = absurd (some refl)
at_start (b ∷ bs) st some e = ap (λ x. code_by_start x (b ∷ bs)) e

pub point_first : (text : List ℕ) → is_bad_point text ≡ true → get_or text 0 0 ≡ 46
point_first text h = number_same (get_or text 0 0) 46 (and_parts (get_or text 0 0 == 46)
    (is_ascii_digit (get_or text 1 0)) h).0

some_by : (text : List ℕ) (b : ℕ) → get_or text 0 0 ≡ b → 0 < b → length text ≡ 0 → ⊥
some_by [] b e h z = omega arith
some_by (x ∷ xs) b e h z = omega arith

quote_some : (text : List ℕ) → start_of (get_or text 0 0) ≡ Quoted → length text ≡ 0 → ⊥
quote_some [] h e = cc
quote_some (x ∷ xs) h e = omega arith

digit_some : (text : List ℕ) → start_of (get_or text 0 0) ≡ Numeric → length text ≡ 0 → ⊥
digit_some [] h e = cc
digit_some (x ∷ xs) h e = omega arith

space_blank : (b : ℕ) → (b == 32) ≡ true → start_of b ≡ Blank
space_blank b h = ap start_of (number_same b 32 h)

-- the first byte of an indentation
pub tab_start : (c : LexicalContext) (text : List ℕ) (k : ℕ) → IsBadTab c text k → start_of (get_or text 0 0) ≡ Blank
tab_start c [] k h = let within = h.within in absurd (omega arith)
tab_start c (b ∷ bs) zero h = ap start_of h.tab
tab_start c (b ∷ bs) (suc k) h = space_blank b (and_parts (b == 32) (list_all (λ x. x == 32) (take k bs)) h.spaces).0

pub operator_there : (text : List ℕ) (x : Operator) (rest : List ℕ) → text ≡ operator_text x ++ rest
    → (length text ≡ 0 → ⊥) × (get_or text 0 0 ≡ get_or (operator_text x) 0 0)
operator_there text x rest e =
    let some = some_token (t.Operator x) (operator_text x) refl in (
      λ none. some (omega (arith, ap length e, length-append (operator_text x) rest)),
      ap (λ y. get_or y 0 0) e
          ∙ first_of (operator_text x) rest some,
    )

-- the role of the operator that stands there
pub role_there : (text : List ℕ) (x : Operator) (rest : List ℕ) → text ≡ operator_text x ++ rest
    → role_by_byte (get_or text 0 0) ≡ role_of x
role_there text x rest e = ap role_by_byte (operator_there text x rest e).1 ∙ sym (role_is x)

signed_at : (text : List ℕ) (x : Operator) (rest : List ℕ) (role : Role) → text ≡ operator_text x ++ rest
    → role_of x ≡ role → code_at text ≡ code_by_role role
signed_at text x rest role e is =
    let (some, first) = operator_there text x rest e in
    at_start text Signed some (ap start_of first ∙ operator_start x) ∙ ap code_by_role (role_there text x rest e ∙ is)

blank_back : (b : ℕ) → start_of b ≡ Blank → is_blank b ≡ false → ⊥
blank_back b h none = elim (cases_Bool (b == 35)) [
  | inl hash ↦ let other = rw (none, hash) at h in cc
  | inr no_hash ↦ elim (cases_Bool (is_line_byte b)) [
    | inl feed ↦ let other = feed_start b feed in cc
    | inr no_feed ↦ elim (cases_Bool (is_quote b)) [
      | inl quote ↦ let other = quote_start b quote in cc
      | inr no_quote ↦ elim (cases_Bool (is_ascii_digit b)) [
        | inl digit ↦ let other = digit_start b digit in cc
        | inr no_digit ↦ elim (cases_Bool (is_letter b)) [
          | inl letter ↦ let other = letter_start b letter in cc
          | inr no_letter ↦ let other = rw (none, no_hash, no_feed, no_quote, no_digit, no_letter) at h in cc
        ]
      ]
    ]
  ]
]

stray_tab : (c : LexicalContext) (text : List ℕ) (k : ℕ) → IsStray text → IsBadTab c text k → ⊥
stray_tab c text k s h = blank_back (get_or text 0 0) (tab_start c text k h) s.no_blank

one_digit : (b : ℕ) → is_ascii_digit b ≡ true → is_number (b ∷ []) ≡ true
one_digit b h = grind (arith, nat_tests)

digit_token_here : (bs : List ℕ) → is_ascii_digit (get_or bs 0 0) ≡ true → IsStray bs → ⊥
digit_token_here [] h s = cc
digit_token_here (b ∷ bs) h s = s.no_token t.Int (b ∷ []) bs refl (one_digit b h)

point_token : (bs : List ℕ) → is_bad_point bs ≡ true → IsStray bs → ⊥
point_token [] h s = cc
point_token (b ∷ bs) h s = s.no_token (t.Operator o.Dot) (b ∷ []) bs refl
    (ap (λ x. x ∷ []) (sym (point_first (b ∷ bs) h)))

ended : (bs : List ℕ) → length bs ≡ 0 → L5 ≡ code_at bs
ended [] z = refl
ended (b ∷ bs) z = absurd (omega arith)

module _ (c : LexicalContext) (text : List ℕ) where
  code_2 : (k : ℕ) → IsFault c text L2 k → L2 ≡ code_at text
  code_2 k h = let start = quote_start (get_or text 0 0) h.1.0 in
      sym (at_start text Quoted (quote_some text start) start)

  code_3 : IsBadDigits text → L3 ≡ code_at text
  code_3 (inl (digit, bad)) = let start = digit_start (get_or text 0 0) digit in
      sym (at_start text Numeric (digit_some text start) start ∙ rw bad)
  code_3 (inr point) =
      let first = point_first text point in
      sym (at_start text Signed (some_by text 46 first (omega arith)) (ap start_of first)
      ∙ ap (λ b. code_by_role (role_by_byte b)) first)

  code_4 : (k : ℕ) → IsFault c text L4 k → L4 ≡ code_at text
  code_4 k (_, (bytes, rest, e, longest, bad)) =
      let token = longest.token in
      let none = some_token t.Name bytes token in
      let first : get_or text 0 0 ≡ get_or bytes 0 0 = ap (λ y. get_or y 0 0) e ∙ first_of bytes rest none in
      let some : length text ≡ 0 → ⊥ = λ z. none (omega (arith, ap length e, length-append bytes rest)) in
      sym (at_start text Wordy some (ap start_of first ∙ kind_start t.Name bytes token))

  code_5 : IsBadClosing c text → L5 ≡ code_at text
  code_5 (inl (none, some)) = ended text none
  code_5 (inr (x, opener, rest, e, is, other)) = sym (signed_at text x rest (r.Closes opener) e is)

  code_6 : (k : ℕ) → IsFault c text L6 k → L6 ≡ code_at text
  code_6 k (_, (x, rest, e, is, full)) = sym (signed_at text x rest r.Opens e is)

  code_7 : (k : ℕ) → IsFault c text L7 k → L7 ≡ code_at text
  code_7 k h = sym (at_start text Blank (λ z. let within = h.within in omega arith) (tab_start c text k h))

  code_8 : (k : ℕ) → IsFault c text L8 k → L8 ≡ code_at text
  code_8 k (_, (digit, good, many)) = let start = digit_start (get_or text 0 0) digit in
      sym (at_start text Numeric (digit_some text start) start ∙ rw good)

  -- a refusal but a stray character has this code
  code_is : (code : RefusalCode) (k : ℕ) → IsFault c text code k → (code ≡ L1) ⊎ (code ≡ code_at text)
  code_is L1 k h = inl refl
  code_is L2 k h = inr (code_2 k h)
  code_is L3 k h = inr (code_3 h.1)
  code_is L4 k h = inr (code_4 k h)
  code_is L5 k h = inr (code_5 h.1)
  code_is L6 k h = inr (code_6 k h)
  code_is L7 k h = inr (code_7 k h)
  code_is L8 k h = inr (code_8 k h)
  code_is S1 k h = absurd h
  code_is _ k h = absurd h

  tab_place : (k : ℕ) → IsBadTab c text k → prefix_len (λ b. b == 32) text ≡ k
  tab_place k h =
      let within = h.within in
      prefix_len_is (λ b. b == 32) text k 0 (omega arith)
      (λ i low. let kept = get_or-take k text i 0 low in
      let len = length-take-le k text (omega arith) in
      ap (λ b. b == 32) (sym kept) ∙ list_all-at (λ b. b == 32) (take k text) i 0 (omega arith) h.spaces)
      (λ _. ap (λ b. b == 32) h.tab)

  -- one code stands at one place
  place_is : (code : RefusalCode) (k l : ℕ) → IsFault c text code k → IsFault c text code l → k ≡ l
  place_is L1 k l h g = h.0 ∙ sym g.0
  place_is L2 k l h g = h.0 ∙ sym g.0
  place_is L3 k l h g = h.0 ∙ sym g.0
  place_is L4 k l h g = h.0 ∙ sym g.0
  place_is L5 k l h g = h.0 ∙ sym g.0
  place_is L6 k l h g = h.0 ∙ sym g.0
  place_is L7 k l h g = sym (tab_place k h) ∙ tab_place l g
  place_is L8 k l h g = h.0 ∙ sym g.0
  place_is S1 k l h g = absurd h
  place_is _ k l h g = absurd h

  -- where a stray character stands, no other refusal does
  stray_alone : (code : RefusalCode) (k : ℕ) → IsStray text → IsFault c text code k → code ≡ L1
  stray_alone L1 k s h = refl
  stray_alone L2 k s h = let quote = h.1.0 in let none = s.no_quote in let no : ⊥ = cc in absurd no
  stray_alone L3 k s (_, inl (digit, bad)) = absurd (digit_token_here text digit s)
  stray_alone L3 k s (_, inr point) = absurd (point_token text point s)
  stray_alone L4 k s (_, (bytes, rest, e, longest, bad)) = absurd (s.no_token t.Name bytes rest e longest.token)
  stray_alone L5 k s (_, inl (none, some)) = absurd (s.some none)
  stray_alone L5 k s (_, inr (x, opener, rest, e, is, other)) =
      absurd (s.no_token (t.Operator x) (operator_text x) rest e refl)
  stray_alone L6 k s (_, (x, rest, e, is, full)) = absurd (s.no_token (t.Operator x) (operator_text x) rest e refl)
  stray_alone L7 k s h = absurd (stray_tab c text k s h)
  stray_alone L8 k s (_, (digit, good, many)) = absurd (digit_token_here text digit s)
  stray_alone S1 k s h = absurd h
  stray_alone _ k s h = absurd h

  same_code : (a b : RefusalCode) (k l : ℕ) → IsFault c text a k → IsFault c text b l → a ≡ b
  same_code a b k l h g = elim (code_is a k h) [
    | inl stray ↦ stray ∙ sym (stray_alone b l (subst (λ x. IsFault c text x k) stray h).1 g)
    | inr e ↦ elim (code_is b l g) [
      | inl stray ↦ stray_alone a k (subst (λ x. IsFault c text x l) stray g).1 h ∙ sym stray
      | inr f ↦ e ∙ sym f
    ]
  ]

  -- two refusals at one place are one
  pub one_fault : (a b : RefusalCode) (k l : ℕ) → IsFault c text a k → IsFault c text b l → (a ≡ b) × (k ≡ l)
  one_fault a b k l h g =
      let codes : a ≡ b = same_code a b k l h g in
      (codes, place_is b k l (subst (λ x. IsFault c text x k) codes h) g)
