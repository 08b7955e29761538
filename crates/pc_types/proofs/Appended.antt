-- A list with one more element.
use Rattle.std.proofs.Common.{◌≡◌, ℕ, zero, suc, List, [], ◌∷◌, ◌++◌, length, slice_get, Some, subst}

-- what holds of each element at its index, and of one more element at the next index, holds of each element with it
pub each_more : {A : Type 0} (P : ℕ → A → Type 0) (xs : List A) (x : A)
    → ((i : ℕ) (y : A) → slice_get xs i ≡ Some y → P i y) → P (length xs) x → (i : ℕ) (y : A)
    → slice_get (xs ++ x ∷ []) i ≡ Some y → P i y
each_more P [] x h k zero y q =
    let e : x ≡ y = cc in
    subst (P zero) e k
each_more P [] x h k (suc i) y q = cc
each_more P (z ∷ xs) x h k zero y q = h zero y q
each_more P (z ∷ xs) x h k (suc i) y q = each_more (λ j. P (suc j)) xs x (λ j w r. h (suc j) w r) k i y q
