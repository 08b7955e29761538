-- The leading bytes of a text that pass a test.
use Rattle.std.proofs.Common.{◌≡◌, ℕ, suc, ◌<◌, ◌≤◌, List, [], ◌∷◌, Bool, true, false, ◌&&◌, ◌⊎◌, length, take, drop}
use Rattle.std.proofs.Common.{get_or, refl, ap, ◌∙◌, inl, inr, arith, add-zero, get_or-drop}
use Rattle.std.specs.List.{prefix_len, list_all}
use Rattle.std.proofs.lemmas.Bool.{cases_lt}
use Rattle.std.proofs.lemmas.List.{get_or_past, length-drop, length-take, get_or-take}
use Rattle.std.proofs.lemmas.List.Sums.{prefix_len_passes, prefix_len_stops}

both : (a b : Bool) → a ≡ true → b ≡ true → (a && b) ≡ true
both a b e f = ap (λ x. x && b) e ∙ f

-- where each passes, all do
pub list_all-from : (p : ℕ → Bool) (xs : List ℕ) → ((k : ℕ) → k < length xs → p (get_or xs k 0) ≡ true)
    → list_all p xs ≡ true
list_all-from p [] h = refl
list_all-from p (x ∷ xs) h = both (p x) (list_all p xs) (h 0 (omega arith))
    (list_all-from p xs (λ k l. h (suc k) (omega arith)))

module _ (p : ℕ → Bool) (xs : List ℕ) where
  -- the first of them pass
  pub front_passes : (n : ℕ) → n ≤ prefix_len p xs → list_all p (take n xs) ≡ true
  front_passes n h = list_all-from p (take n xs) (λ k l.
      let short : k < n = omega (arith, length-take n xs) in
      rw (get_or-take n xs k 0 short) (prefix_len_passes p xs k 0 (omega arith)))

  -- the rest is empty, or begins with a byte that does not pass
  pub stops : (length (drop (prefix_len p xs) xs) ≡ 0) ⊎ (p (get_or (drop (prefix_len p xs) xs) 0 0) ≡ false)
  stops = elim (cases_lt (prefix_len p xs) (length xs)) [
    | inl within ↦ inr (rw (get_or-drop (prefix_len p xs) xs 0 0, add-zero) (prefix_len_stops p xs 0 within))
    | inr past ↦ inl (omega (arith, length-drop (prefix_len p xs) xs))
  ]

  -- the same in one test, where no zero passes
  pub stops_at : p 0 ≡ false → p (get_or (drop (prefix_len p xs) xs) 0 0) ≡ false
  stops_at none = elim stops [
    | inl nothing ↦ rw (get_or_past (drop (prefix_len p xs) xs) 0 0 (omega arith)) none
    | inr other ↦ other
  ]

  -- one passes where the first does
  pub some_pass : p (get_or xs 0 0) ≡ true → 0 < length xs → 0 < prefix_len p xs
  some_pass h some = elim (cases_lt 0 (prefix_len p xs)) [
    | inl more ↦ more
    | inr none ↦ let e : prefix_len p xs ≡ 0 = omega arith in
        let stop = prefix_len_stops p xs 0 (omega arith) in
        let no : p (get_or xs 0 0) ≡ false = rw e at stop in cc
  ]
