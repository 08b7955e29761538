-- The end of a string.
use Rattle.std.proofs.Common.{◌≡◌, ◌≢◌, ℕ, ◌+◌, ◌<◌, ◌≤◌, List, [], ◌∷◌, ◌++◌, true, false, length, take, drop, get_or}
use Rattle.std.proofs.Common.{refl, sym, ap, ◌∙◌, subst, arith, slice_range, inl, inr, append_assoc, get_or-drop}
use Rattle.std.proofs.Common.{add-zero}
use Rattle.std.proofs.lemmas.List.{drop_more, drop_all, get_or_past}
use Rattle.std.proofs.lemmas.Bool.{cases_lt}
use Rattle.pc_token.proofs.Slices.{joined, one_element, two_elements, front_is}
use Rattle.std.proofs.lemmas.Bool.Decides.{nat_tests}
use Rattle.pc_token.specs.Strings.{is_quote, is_escape, is_plain, IsBody, none, plain, escape, IsString}
use Rattle.pc_token.specs.Faults.{NoString}

-- the text goes to the end of a string between these quotes
abbrev pub Closes : ℕ → List ℕ → Type 0
Closes q text = (body : List ℕ) × (rest : List ℕ) × IsBody q body × (text ≡ body ++ (q ∷ rest))

pub IsBody-append : (q : ℕ) (xs ys : List ℕ) → IsBody q xs → IsBody q ys → IsBody q (xs ++ ys)
IsBody-append q [] ys h g = g
IsBody-append q (x ∷ xs) ys (plain p r) g = plain p (IsBody-append q xs ys r g)
IsBody-append q (x ∷ y ∷ xs) ys (escape b e r) g = escape b e (IsBody-append q xs ys r g)

pub quote_no_backslash : (q : ℕ) → is_quote q ≡ true → q ≡ 92 → ⊥
quote_no_backslash q h e = grind (arith, nat_tests)

pub plain_no_quote : (q b : ℕ) → is_plain q b ≡ true → b ≡ q → ⊥
plain_no_quote q b h e = grind (arith, nat_tests)

pub plain_no_backslash : (q b : ℕ) → is_plain q b ≡ true → b ≡ 92 → ⊥
plain_no_backslash q b h e = grind (arith, nat_tests)

past_plain_body : (q b : ℕ) (t body rest : List ℕ) → is_plain q b ≡ true → IsBody q body → b ∷ t ≡ body ++ (q ∷ rest)
    → Closes q t
past_plain_body q b t [] rest p h e = let same : b ≡ q = cc in absurd (plain_no_quote q b p same)
past_plain_body q b t (x ∷ xs) rest p (plain _ r) e = (xs, rest, r, (cc))
past_plain_body q b t (x ∷ y ∷ xs) rest p (escape back _ r) e = let same : b ≡ x = cc in
    absurd (plain_no_backslash q b p (same ∙ back))

-- past a plain byte
pub past_plain : (q b : ℕ) (t : List ℕ) → is_plain q b ≡ true → Closes q (b ∷ t) → Closes q t
past_plain q b t p (body, rest, h, e) = past_plain_body q b t body rest p h e

past_escape_body : (q b x : ℕ) (t body rest : List ℕ) → is_quote q ≡ true → b ≡ 92 → IsBody q body
    → b ∷ x ∷ t ≡ body ++ (q ∷ rest) → Closes q t
past_escape_body q b x t [] rest quote back h e = let same : b ≡ q = cc in
    absurd (quote_no_backslash q quote (sym same ∙ back))
past_escape_body q b x t (y ∷ ys) rest quote back (plain p _) e = let same : b ≡ y = cc in
    absurd (plain_no_backslash q y p (sym same ∙ back))
past_escape_body q b x t (y ∷ z ∷ ys) rest quote back (escape _ _ r) e = (ys, rest, r, (cc))

-- past an escape
pub past_escape : (q b x : ℕ) (t : List ℕ) → is_quote q ≡ true → b ≡ 92 → Closes q (b ∷ x ∷ t) → Closes q t
past_escape q b x t quote back (body, rest, h, e) = past_escape_body q b x t body rest quote back h e

pub closes_none : (q : ℕ) → Closes q [] → ⊥
closes_none q ([], rest, h, e) = cc
closes_none q (x ∷ xs, rest, h, e) = cc

stuck_body : (q b : ℕ) (t body rest : List ℕ) → b ≢ q → is_plain q b ≡ false
    → (b ≡ 92 → is_escape (get_or t 0 0) ≡ false) → IsBody q body → b ∷ t ≡ body ++ (q ∷ rest) → ⊥
stuck_body q b t [] rest other dull bad h e = other (let same : b ≡ q = cc in same)
stuck_body q b t (x ∷ xs) rest other dull bad (plain p _) e = let same : b ≡ x = cc in let no : is_plain q b ≡ true =
    rw same p in cc
stuck_body q b t (x ∷ y ∷ xs) rest other dull bad (escape back esc _) e =
    let same : b ≡ x = cc in
    let tail : t ≡ y ∷ (xs ++ (q ∷ rest)) = cc in
    let no : is_escape y ≡ false = ap (λ l. is_escape (get_or l 0 0)) (sym tail) ∙ bad (same ∙ back) in cc

-- at a byte that is no quote, not plain, and begins no escape, none closes
pub stuck : (q b : ℕ) (t : List ℕ) → b ≢ q → is_plain q b ≡ false → (b ≡ 92 → is_escape (get_or t 0 0) ≡ false)
    → Closes q (b ∷ t) → ⊥
stuck q b t other dull bad (body, rest, h, e) = stuck_body q b t body rest other dull bad h e

module _ (q : ℕ) (bs : List ℕ) (at : ℕ) where
  pub body_plain : 1 ≤ at → at < length bs → is_plain q (get_or bs at 0) ≡ true → IsBody q (slice_range bs 1 at)
      → IsBody q (slice_range bs 1 (at + 1))
  body_plain some within p h =
      rw (joined bs 1 at (at + 1) some (omega arith), one_element bs at within)
      (IsBody-append q (slice_range bs 1 at) (get_or bs at 0 ∷ []) h (plain p none))

  pub body_escape : 1 ≤ at → at + 1 < length bs → get_or bs at 0 ≡ 92 → is_escape (get_or bs (at + 1) 0) ≡ true
      → IsBody q (slice_range bs 1 at) → IsBody q (slice_range bs 1 (at + 2))
  body_escape some within back e h =
      rw (joined bs 1 at (at + 2) some (omega arith), two_elements bs at within)
      (IsBody-append q (slice_range bs 1 at) (get_or bs at 0 ∷ get_or bs (at + 1) 0 ∷ []) h (escape back e none))

  pub goes_plain : at < length bs → is_plain q (get_or bs at 0) ≡ true → Closes q (drop at bs)
      → Closes q (drop (at + 1) bs)
  goes_plain within p h = past_plain q (get_or bs at 0) (drop (at + 1) bs) p
      (subst (Closes q) (drop_more bs at 0 within) h)

  pub goes_escape : is_quote q ≡ true → at + 1 < length bs → get_or bs at 0 ≡ 92 → Closes q (drop at bs)
      → Closes q (drop (at + 2) bs)
  goes_escape quote within back h =
      let two : drop at bs ≡ get_or bs at 0 ∷ get_or bs (at + 1) 0 ∷ drop (at + 1 + 1) bs =
      drop_more bs at 0 (omega arith) ∙ ap (λ x. get_or bs at 0 ∷ x) (drop_more bs (at + 1) 0 within) in
      let sum : at + 1 + 1 ≡ at + 2 = omega arith in
      subst (λ n. Closes q (drop n bs)) sum (past_escape q (get_or bs at 0) (get_or bs (at + 1) 0)
      (drop (at + 1 + 1) bs) quote back (subst (Closes q) two h))

  pub stuck_here : at < length bs → get_or bs at 0 ≢ q → is_plain q (get_or bs at 0) ≡ false
      → (get_or bs at 0 ≡ 92 → is_escape (get_or bs (at + 1) 0) ≡ false) → Closes q (drop at bs) → ⊥
  stuck_here within other dull bad h =
      let next : get_or (drop (at + 1) bs) 0 0 ≡ get_or bs (at + 1) 0 = rw (get_or-drop (at + 1) bs 0 0, add-zero) in
      stuck q (get_or bs at 0) (drop (at + 1) bs) other dull (λ e. rw next (bad e))
      (subst (Closes q) (drop_more bs at 0 within) h)

  pub past_end : length bs ≤ at → Closes q (drop at bs) → ⊥
  past_end h c = closes_none q (subst (Closes q) (drop_all at bs h) c)

  pub string_is : q ≡ get_or bs 0 0 → is_quote q ≡ true → 1 ≤ at → at < length bs → get_or bs at 0 ≡ q
      → IsBody q (slice_range bs 1 at) → IsString (take (at + 1) bs)
  string_is first quote some within here h = (
    q,
    slice_range bs 1 at,
    quote,
    h,
    front_is bs (at + 1) ∙ joined bs 0 1 (at + 1) (omega arith) (omega arith)
        ∙ ap (λ x. x ++ slice_range bs 1 (at + 1)) (one_element bs 0 (omega arith) ∙ ap (λ x. x ∷ []) (sym first))
        ∙ ap (λ x. q ∷ x) (joined bs 1 at (at + 1) some (omega arith)
        ∙ ap (λ x. slice_range bs 1 at ++ x) (one_element bs at within ∙ ap (λ x. x ∷ []) here)),
  )

string_front : (q : ℕ) (bs bytes rest : List ℕ) → q ≡ get_or bs 0 0 → (Closes q (drop 1 bs) → ⊥) → bs ≡ bytes ++ rest
    → IsString bytes → ⊥
string_front q bs bytes rest first never e (quote, body, ok, h, is) =
    let moved : (body ++ (quote ∷ [])) ++ rest ≡ body ++ (quote ∷ rest) = rw append_assoc in
    let whole : bs ≡ quote ∷ (body ++ (quote ∷ rest)) = e ∙ ap (λ x. x ++ rest) is ∙ ap (λ x. quote ∷ x) moved in
    let same : q ≡ quote = first ∙ ap (λ x. get_or x 0 0) whole in
    never (
      body,
      rest,
      subst (λ n. IsBody n body) (sym same) h,
      ap (drop 1) whole
          ∙ ap (λ n. body ++ (n ∷ rest)) (sym same),
    )

-- where no quote closes, no string begins
pub no_string : (q : ℕ) (bs : List ℕ) → q ≡ get_or bs 0 0 → (Closes q (drop 1 bs) → ⊥) → NoString bs
no_string q bs first never bytes rest e h = string_front q bs bytes rest first never e h

pub quote_there : (bs : List ℕ) → is_quote (get_or bs 0 0) ≡ true → length bs ≡ 0 → ⊥
quote_there [] h e = cc
quote_there (b ∷ bs) h e = omega arith

pub escape_there : (bs : List ℕ) (i : ℕ) → is_escape (get_or bs i 0) ≡ true → i < length bs
escape_there bs i h = elim (cases_lt i (length bs)) [
  | inl within ↦ within
  | inr past ↦ let zero_past = get_or_past bs i 0 past in let no : is_escape (get_or bs i 0) ≡ false =
      rw zero_past refl in cc
]
