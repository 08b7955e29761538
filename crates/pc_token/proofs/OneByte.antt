-- An operator before a byte that is second in no operator is decided by its one byte.
use Rattle.std.proofs.Common.{◌≡◌, ℕ, ◌<◌, List, [], ◌∷◌, Bool, true, false, ◌||◌, ◌==◌, length, get_or, refl, sym}
use Rattle.std.proofs.Common.{inl, inr, arith}
use Rattle.std.specs.Prelude.{find, nat_eq}
use Rattle.std.specs.List.{starts_with}
use Rattle.std.proofs.lemmas.Bool.{cases_Bool}
use Rattle.std.proofs.lemmas.Bool.Decides.{nat_tests}
use Rattle.pc_token.specs.declared.token.Operator.{Operator}
use Rattle.pc_token.specs.declared.token.Operator.TheVariants as o
use Rattle.pc_token.specs.Operators.{operator_text, operators}
use Rattle.pc_token.specs.Internal.Candidates.{stands_second}

-- tests that agree find the same
find_agrees : {X : Type 0} (p q : X → Bool) → ((x : X) → p x ≡ q x) → (xs : List X) → find p xs ≡ find q xs
find_agrees p q same [] = refl
find_agrees p q same (x ∷ xs) = elim (cases_Bool (q x)) [
  | inl here ↦ rw (same x, here)
  | inr other ↦ rw (same x, other) (find_agrees p q same xs)
]

-- an operator is one byte, or its second byte is one of these
one_or_second : (x : Operator) → (length (operator_text x) == 1 || stands_second (get_or (operator_text x) 1 0)) ≡ true
one_or_second o.Plus = refl
one_or_second _ = refl

other_byte : (d e : ℕ) → stands_second d ≡ true → stands_second e ≡ false → nat_eq d e ≡ false
other_byte d e is not_second = grind (arith, nat_tests)

second_of : (n : ℕ) (x : Bool) → 1 < n → (n == 1 || x) ≡ true → x ≡ true
second_of n x more is = elim (cases_Bool (n == 1)) [
  | inl one ↦ absurd (grind (arith, nat_tests))
  | inr many ↦ rw many at is
]

module _ (b : ℕ) where
  front_alone : (t rest : List ℕ) → (length t == 1 || stands_second (get_or t 1 0)) ≡ true
      → stands_second (get_or rest 0 0) ≡ false
      → starts_with nat_eq (b ∷ rest) t ≡ starts_with nat_eq (b ∷ []) t
  front_alone [] rest is not_second = refl
  front_alone (c ∷ []) rest is not_second = refl
  front_alone (c ∷ d ∷ r) [] is not_second = refl
  front_alone (c ∷ d ∷ r) (e ∷ rest) is not_second = rw (other_byte d e
      (second_of (length (c ∷ d ∷ r)) (stands_second d) (omega arith) is) not_second) refl

  -- the operator at the front
  one_byte : (rest : List ℕ) → stands_second (get_or rest 0 0) ≡ false
      → find (λ x. starts_with nat_eq (b ∷ []) (operator_text x)) operators
      ≡ find (λ x. starts_with nat_eq (b ∷ rest) (operator_text x)) operators
  one_byte rest not_second = find_agrees (λ x. starts_with nat_eq (b ∷ []) (operator_text x))
      (λ x. starts_with nat_eq (b ∷ rest) (operator_text x))
      (λ x. sym (front_alone (operator_text x) rest (one_or_second x) not_second)) operators

-- the same of bytes of which there is one
pub one_byte_here : (bytes : List ℕ) → 0 < length bytes → stands_second (get_or bytes 1 0) ≡ false
    → find (λ x. starts_with nat_eq (get_or bytes 0 0 ∷ []) (operator_text x)) operators
    ≡ find (λ x. starts_with nat_eq bytes (operator_text x)) operators
one_byte_here [] some not_second = absurd (omega arith)
one_byte_here (b ∷ rest) some not_second = one_byte b rest not_second
