-- The first operator of the list with which the text begins is the longest.
use Rattle.std.proofs.Common.{◌≡◌, ℕ, suc, zero, ◌+◌, ◌<◌, ◌≤◌, List, [], ◌∷◌, ◌++◌, Bool, true, ◌&&◌, Some, None}
use Rattle.std.proofs.Common.{length, drop, get_or, refl, sym, ap, ◌∙◌, inl, inr, arith, length-append, append_assoc}
use Rattle.std.specs.Prelude.{nat_eq, nat_le, find, slice_get}
use Rattle.std.specs.List.{list_all, starts_with}
use Rattle.std.proofs.Common.{lit<}
use Rattle.std.proofs.lemmas.Bool.{cases_Bool, and_parts}
use Rattle.std.proofs.lemmas.Bool.Decides.{nat_tests, Decides-eqb}
use Rattle.std.proofs.lemmas.Slice.Eq.{starts_is}
use Rattle.std.proofs.Math.ListN.{get_or-append}
use Rattle.pc_source.proofs.ListSearch.{found_passes, none_passes}
use Rattle.pc_token.specs.declared.token.Operator.{Operator}
use Rattle.pc_token.specs.declared.token.Operator.TheVariants as o
use Rattle.pc_token.specs.declared.token.TokenKind.TheVariants as t
use Rattle.pc_token.specs.Operators.{operator_text, operators}
use Rattle.pc_token.specs.Spelling.{IsLongest}
use Rattle.pc_token.proofs.Leads.{is_sign, lead_of, sign_token}

abbrev size : Operator → ℕ
size o = length (operator_text o)

abbrev descending : List Operator → Bool
descending [] = true
descending (x ∷ xs) = list_all (λ y. nat_le (size y) (size x)) xs && descending xs

at_most : (a b : ℕ) → nat_le a b ≡ true → a ≤ b
at_most a b h = grind (arith, nat_tests)

shorter : (x y : Operator) (xs : List Operator) (i : ℕ) → list_all (λ z. nat_le (size z) (size x)) xs ≡ true
    → slice_get xs i ≡ Some y → size y ≤ size x
shorter x y [] i all e = let no : ⊥ = cc in absurd no
shorter x y (z ∷ zs) zero all e = let same : z ≡ y = cc in let low =
    (and_parts (nat_le (size z) (size x)) (list_all (λ w. nat_le (size w) (size x)) zs) all).0 in
    rw (← same) (at_most (size z) (size x) low)
shorter x y (z ∷ zs) (suc i) all e = shorter x y zs i (and_parts (nat_le (size z) (size x))
    (list_all (λ w. nat_le (size w) (size x)) zs) all).1 e

module _ (p : Operator → Bool) where
  longest_found : (xs : List Operator) (x y : Operator) (i : ℕ) → descending xs ≡ true → find p xs ≡ Some x
      → slice_get xs i ≡ Some y → p y ≡ true → size y ≤ size x
  longest_found [] x y i d f e h = let no : ⊥ = cc in absurd no
  longest_found (z ∷ zs) x y zero d f e h =
      let same : z ≡ y = cc in
      let here : p z ≡ true = rw same h in
      let found = rw here at f in
      let result : z ≡ x = cc in
      let both : size y ≡ size x = ap size (sym same ∙ result) in omega arith
  longest_found (z ∷ zs) x y (suc i) d f e h = elim (cases_Bool (p z)) [
    | inl here ↦ let found = rw here at f in let result : z ≡ x = cc in
        rw (← result) (shorter z y zs i (and_parts (list_all (λ w. nat_le (size w) (size z)) zs) (descending zs) d).0 e)
    | inr other ↦ longest_found zs x y i (and_parts (list_all (λ w. nat_le (size w) (size z)) zs) (descending zs) d).1
        (rw other at f) e h
  ]

-- where each operator stands in the list
place : (x : Operator) → (i : ℕ) × (slice_get operators i ≡ Some x)
place o.DoubleSlashEqual = (0, refl)
place o.DoubleStarEqual = (1, refl)
place o.LeftShiftEqual = (2, refl)
place o.RightShiftEqual = (3, refl)
place o.Ellipsis = (4, refl)
place o.DoubleSlash = (5, refl)
place o.EqualEqual = (6, refl)
place o.NotEqual = (7, refl)
place o.LessEqual = (8, refl)
place o.GreaterEqual = (9, refl)
place o.Arrow = (10, refl)
place o.DoubleStar = (11, refl)
place o.LeftShift = (12, refl)
place o.RightShift = (13, refl)
place o.ColonEqual = (14, refl)
place o.PlusEqual = (15, refl)
place o.MinusEqual = (16, refl)
place o.StarEqual = (17, refl)
place o.SlashEqual = (18, refl)
place o.PercentEqual = (19, refl)
place o.AmpersandEqual = (20, refl)
place o.BarEqual = (21, refl)
place o.CircumflexEqual = (22, refl)
place o.AtEqual = (23, refl)
place o.Plus = (24, refl)
place o.Minus = (25, refl)
place o.Star = (26, refl)
place o.Percent = (27, refl)
place o.Less = (28, refl)
place o.Greater = (29, refl)
place o.Equal = (30, refl)
place o.LeftParenthesis = (31, refl)
place o.RightParenthesis = (32, refl)
place o.LeftBracket = (33, refl)
place o.RightBracket = (34, refl)
place o.LeftBrace = (35, refl)
place o.RightBrace = (36, refl)
place o.Comma = (37, refl)
place o.Colon = (38, refl)
place o.Dot = (39, refl)
place o.Bar = (40, refl)
place o.At = (41, refl)
place o.Slash = (42, refl)
place o.Ampersand = (43, refl)
place o.Circumflex = (44, refl)
place o.Tilde = (45, refl)
place o.Semicolon = (46, refl)

descends : descending operators ≡ true
descends = refl

some_text : (x : Operator) → 0 < size x
some_text o.Plus = lit< tt
some_text _ = lit< tt

begins : (bytes : List ℕ) (x : Operator) → starts_with nat_eq bytes (operator_text x) ≡ true
    → bytes ≡ operator_text x ++ drop (size x) bytes
begins bytes x h = (starts_is Decides-eqb bytes (operator_text x) (starts_with nat_eq bytes (operator_text x)) refl).0 h

begun : (bytes rest : List ℕ) (x : Operator) → bytes ≡ operator_text x ++ rest
    → starts_with nat_eq bytes (operator_text x) ≡ true
begun bytes rest x e = (starts_is Decides-eqb bytes (operator_text x) (starts_with nat_eq bytes (operator_text x))
    refl).1 rest e

-- the operator that is found, and what follows it
pub operator_begins : (bytes : List ℕ) (x : Operator) → find (λ y. starts_with nat_eq bytes (operator_text y)) operators
    ≡ Some x → bytes ≡ operator_text x ++ drop (size x) bytes
operator_begins bytes x f = begins bytes x (found_passes (λ y. starts_with nat_eq bytes (operator_text y)) operators x
    f)

-- where none is found no operator begins
pub no_operator : (bytes rest : List ℕ) (x : Operator) → find (λ y. starts_with nat_eq bytes (operator_text y))
    operators ≡ None → bytes ≡ operator_text x ++ rest → ⊥
no_operator bytes rest x f e =
    let (i, here) = place x in
    let none = none_passes (λ y. starts_with nat_eq bytes (operator_text y)) operators x i f here in
    let some = begun bytes rest x e in cc

no_more : (more : List ℕ) → length more ≡ 0 → more ≡ []
no_more [] h = refl
no_more (x ∷ xs) h = absurd (omega arith)

-- no longer token begins
pub operator_longest : (bytes : List ℕ) (x : Operator) → find (λ y. starts_with nat_eq bytes (operator_text y))
    operators ≡ Some x
    → IsLongest (t.Operator x) (operator_text x) (drop (size x) bytes)
operator_longest bytes x f = record {
  token = refl;
  longest = λ other more after e h.
      let lead : is_sign (get_or (operator_text x ++ more) 0 0) ≡ true =
      rw (get_or-append (operator_text x) more 0 0 (some_text x)) (lead_of (t.Operator x) (operator_text x) refl) in
      let (y, is) = sign_token (operator_text x ++ more) other lead h in
      let (i, here) = place y in
      let whole : bytes ≡ operator_text y ++ after =
      operator_begins bytes x f ∙ ap (λ z. operator_text x ++ z) e ∙ (rw (is, append_assoc)) in
      let low = longest_found (λ z. starts_with nat_eq bytes (operator_text z)) operators x y i descends f here
      (begun bytes after y whole) in
      let sum : size y ≡ size x + length more = ap length is ∙ length-append (operator_text x) more in
      no_more more (omega arith);
}
