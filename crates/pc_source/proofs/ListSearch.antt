-- Results of `find` on a list.
use Rattle.std.proofs.Common.{◌≡◌, ℕ, suc, zero, List, [], ◌∷◌, Bool, true, false, Some, None, inl, inr}
use Rattle.std.specs.Prelude.{find, slice_get}
use Rattle.std.proofs.lemmas.Bool.{cases_Bool}

module _ {X : Type 0} (p : X → Bool) where
  -- where none is found, none passes
  pub none_passes : (xs : List X) (y : X) (i : ℕ) → find p xs ≡ None → slice_get xs i ≡ Some y → p y ≡ false
  none_passes [] y i f e = let no : ⊥ = cc in absurd no
  none_passes (z ∷ zs) y zero f e = elim (cases_Bool (p z)) [
    | inl here ↦ let found = rw here at f in let no : ⊥ = cc in absurd no
    | inr other ↦ let same : z ≡ y = cc in rw (← same) other
  ]
  none_passes (z ∷ zs) y (suc i) f e = elim (cases_Bool (p z)) [
    | inl here ↦ let found = rw here at f in let no : ⊥ = cc in absurd no
    | inr other ↦ none_passes zs y i (rw other at f) e
  ]

  -- the one that is found passes
  pub found_passes : (xs : List X) (x : X) → find p xs ≡ Some x → p x ≡ true
  found_passes [] x f = let no : ⊥ = cc in absurd no
  found_passes (z ∷ zs) x f = elim (cases_Bool (p z)) [
    | inl here ↦ let found = rw here at f in let result : z ≡ x = cc in rw (← result) here
    | inr other ↦ found_passes zs x (rw other at f)
  ]
