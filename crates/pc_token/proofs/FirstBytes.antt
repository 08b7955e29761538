-- The first byte of a text decides which keywords and operators are candidates.
use Rattle.std.proofs.Common.{◌≡◌, ℕ, ◌<◌, List, [], ◌∷◌, ◌++◌, Bool, true, ◌==◌, length, drop, get_or, refl, sym, ap}
use Rattle.std.proofs.Common.{◌∙◌, inl, inr, None, arith, eq-eqb, lit<}
use Rattle.std.specs.Prelude.{find, nat_eq, bytes_eq, is_some}
use Rattle.std.specs.List.{filter, list_any, starts_with}
use Rattle.std.proofs.lemmas.Bool.{cases_Bool}
use Rattle.std.proofs.lemmas.Bool.Decides.{Decides-eqb, nat_tests}
use Rattle.std.proofs.lemmas.Slice.Eq.{bytes_eq-Decides, starts_is}
use Rattle.std.proofs.Math.ListN.{get_or-append}
use Rattle.pc_token.specs.declared.token.Keyword.{Keyword}
use Rattle.pc_token.specs.declared.token.Operator.{Operator}
use Rattle.pc_token.specs.Keywords.{keyword_text, keywords}
use Rattle.pc_token.specs.Internal.Candidates.{may_be}
use Rattle.pc_token.specs.Operators.{operator_text, operators}
use Rattle.pc_token.specs.declared.token.Operator.TheVariants as o

some_text : (x : Operator) → 0 < length (operator_text x)
some_text o.Plus = lit< tt
some_text _ = lit< tt

-- a search among those that may pass finds the same as a search among all
find_filtered : {X : Type 0} (p q : X → Bool) → ((x : X) → p x ≡ true → q x ≡ true) → (xs : List X)
    → find p (filter q xs) ≡ find p xs
find_filtered p q may [] = refl
find_filtered p q may (x ∷ xs) = elim (cases_Bool (p x)) [
  | inl here ↦ rw (may x here, here)
  | inr other ↦ elim (cases_Bool (q x)) [
    | inl kept ↦ rw (kept, other) (find_filtered p q may xs)
    | inr left ↦ rw (left, other) (find_filtered p q may xs)
  ]
]

-- some one passes where one is found
pub any_found : {X : Type 0} (p : X → Bool) (xs : List X) → is_some (find p xs) ≡ list_any p xs
any_found p [] = refl
any_found p (x ∷ xs) = elim (cases_Bool (p x)) [ inl here ↦ rw here | inr other ↦ rw other (any_found p xs) ]

module _ (name : List ℕ) (b : ℕ) (first : b ≡ get_or name 0 0) where
  may_be_spelled : (k : Keyword) → bytes_eq (keyword_text k) name ≡ true → may_be (length name) b k ≡ true
  may_be_spelled k h =
      let same = (bytes_eq-Decides (keyword_text k) name).0 h in
      rw (
        eq-eqb (length (keyword_text k)) (length name) (ap length same),
        eq-eqb (get_or (keyword_text k) 0 0) b (ap (λ x. get_or x 0 0) same ∙ sym first),
      )

  -- a keyword is sought among those that are as long and begin as it does
  pub keyword_sought : find (λ k. bytes_eq (keyword_text k) name) (filter (may_be (length name) b) keywords)
      ≡ find (λ k. bytes_eq (keyword_text k) name) keywords
  keyword_sought = find_filtered (λ k. bytes_eq (keyword_text k) name) (may_be (length name) b) may_be_spelled keywords

  -- none is found where there are none of these
  pub none_sought : (ks : List Keyword) → ks ≡ filter (may_be (length name) b) keywords → (length ks == 0) ≡ true
      → None ≡ find (λ k. bytes_eq (keyword_text k) name) keywords
  none_sought [] is none = ap (find (λ k. bytes_eq (keyword_text k) name)) is ∙ keyword_sought
  none_sought (k ∷ ks) is none = absurd (grind (arith, nat_tests))

module _ (bytes : List ℕ) (b : ℕ) (first : b ≡ get_or bytes 0 0) where
  operator_begins : (o : Operator) → starts_with nat_eq bytes (operator_text o) ≡ true
      → (get_or (operator_text o) 0 0 == b) ≡ true
  operator_begins o h =
      let front : bytes ≡ operator_text o ++ drop (length (operator_text o)) bytes =
      (starts_is Decides-eqb bytes (operator_text o) (starts_with nat_eq bytes (operator_text o)) refl).0 h in
      eq-eqb (get_or (operator_text o) 0 0) b
      (sym (get_or-append (operator_text o) (drop (length (operator_text o)) bytes) 0 0 (some_text o))
      ∙ ap (λ x. get_or x 0 0) (sym front) ∙ sym first)

  -- an operator is sought among those that begin as it does
  pub operator_sought : find (λ o. starts_with nat_eq bytes (operator_text o))
      (filter (λ o. get_or (operator_text o) 0 0 == b) operators)
      ≡ find (λ o. starts_with nat_eq bytes (operator_text o)) operators
  operator_sought = find_filtered (λ o. starts_with nat_eq bytes (operator_text o))
      (λ o. get_or (operator_text o) 0 0 == b) operator_begins operators
