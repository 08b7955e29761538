-- Streams of items, each a value or a fault.
use Rattle.std.specs.Prelude.{◌≡◌, ℕ, ◌≤◌, List, [], ◌∷◌, ◌++◌, map, Option, Some, None, Result, Ok, Err}
use Rattle.pc_source.specs.declared.fault.Refusal.{Refusal}
use Rattle.pc_source.specs.declared.fault.Fault.{Fault}
use Rattle.pc_source.specs.declared.fault.Fault.TheVariants.{Refused}

module _ {S A E : Type 0} (steps : S → Option (Result A E) → S → Type 0) where
  -- the state yields these items, up to its end or to its first fault
  abbrev pub Yields : S → List (Result A E) → Type 0
  Yields s [] = (t : S) × steps s None t
  Yields s (Ok x ∷ xs) = (t : S) × steps s (Some (Ok x)) t × Yields t xs
  Yields s (Err e ∷ xs) = (xs ≡ []) × (t : S) × steps s (Some (Err e)) t

module _ {S A : Type 0} (steps : S → Option (Result A Fault) → S → Type 0) where
  -- whatever the state yields up to its end without a fault satisfies P
  abbrev pub ComesAs : (List A → Type 0) → S → Type 0
  ComesAs P s = (xs : List A) → Yields steps s (map Ok xs) → P xs

  -- each refusal that the state yields is at a byte from 0 to this length
  abbrev pub RefusesWithin : ℕ → S → Type 0
  RefusesWithin len s = (xs : List A) (refusal : Refusal) → Yields steps s (map Ok xs ++ Err (Refused refusal) ∷ [])
      → refusal.byte ≤ len
