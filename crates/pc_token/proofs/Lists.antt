-- Lists all of whose elements pass a test.
use Rattle.std.proofs.Common.{◌≡◌, ℕ, ◌<◌, List, Bool, true, get_or, length, inl, inr}
use Rattle.std.specs.List.{list_all}
use Rattle.std.proofs.lemmas.Bool.{cases_Bool}
use Rattle.std.proofs.lemmas.List.Folds.{list_all_at}

-- each element passes
pub list_all-at : {X : Type 0} (p : X → Bool) (xs : List X) (i : ℕ) (d : X) → i < length xs → list_all p xs ≡ true
    → p (get_or xs i d) ≡ true
list_all-at p xs i d within all = elim (cases_Bool (p (get_or xs i d))) [
  | inl passes ↦ passes
  | inr fails ↦ let none = list_all_at p xs i d within fails in cc
]
