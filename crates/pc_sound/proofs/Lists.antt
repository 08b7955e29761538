-- Lists: which are empty, and the element at a number.
use Rattle.std.proofs.Common.{◌≡◌, ℕ, zero, suc, List, [], ◌∷◌, ◌++◌, length, refl, sym, ap, ◌∙◌, inl, inr, arith}
use Rattle.std.proofs.Common.{lt-ltb}
use Rattle.std.specs.Prelude.{◌⊎◌, Bool as Test, true, false, Some, nat_lt, slice_get, bytes_eq}
use Rattle.std.proofs.lemmas.Option.{same_Some, slice_get_within}
use Rattle.std.proofs.lemmas.Slice.Eq.{bytes_eq-Decides}
use Rattle.pc_sound.proofs.TruthValues.{not_both}

-- ---- empty lists

-- a list with a first element is not empty
pub not_empty : {A : Type 0} {x : A} {xs : List A} → x ∷ xs ≡ [] → ⊥
not_empty e = absurd (grind (arith, e))

-- two lists that are empty together are empty
pub front_empty : {A : Type 0} (xs ys : List A) → xs ++ ys ≡ [] → xs ≡ []
front_empty [] ys e = refl
front_empty (x ∷ xs) ys e = absurd (not_empty e)

pub rest_empty : {A : Type 0} (xs ys : List A) → xs ++ ys ≡ [] → ys ≡ []
rest_empty [] ys e = e
rest_empty (x ∷ xs) ys e = absurd (not_empty e)

-- ---- elements by number

-- one more element is one more in length
pub one_longer : {A : Type 0} (xs : List A) (y : A) → length (xs ++ y ∷ []) ≡ suc (length xs)
one_longer [] y = refl
one_longer (x ∷ xs) y = ap suc (one_longer xs y)

-- the number of an element is below the length
pub within : {A : Type 0} (xs : List A) (i : ℕ) (x : A) → slice_get xs i ≡ Some x → nat_lt i (length xs) ≡ true
within xs i x e = lt-ltb i (length xs) (slice_get_within xs i x e)

-- an element stays where it is when more come after
pub get_left : {A : Type 0} (xs ys : List A) (i : ℕ) (x : A) → slice_get xs i ≡ Some x → slice_get (xs ++ ys) i ≡ Some x
get_left [] ys i x e = grind arith
get_left (y ∷ xs) ys zero x e = e
get_left (y ∷ xs) ys (suc i) x e = get_left xs ys i x e

-- an element put after a list is at the index of the list's length
pub get_at_end : {A : Type 0} (xs : List A) (y : A) (ys : List A) → slice_get (xs ++ y ∷ ys) (length xs) ≡ Some y
get_at_end [] y ys = refl
get_at_end (x ∷ xs) y ys = get_at_end xs y ys

-- of a list with one more, an element is an old one or the new one
pub get_one_more : {A : Type 0} (xs : List A) (y : A) (i : ℕ) (z : A) → slice_get (xs ++ y ∷ []) i ≡ Some z
    → (slice_get xs i ≡ Some z) ⊎ ((i ≡ length xs) × (y ≡ z))
get_one_more [] y zero z e = inr (refl, same_Some _ _ e)
get_one_more [] y (suc i) z e = inl e
get_one_more (x ∷ xs) y zero z e = inl e
get_one_more (x ∷ xs) y (suc i) z e = elim (get_one_more xs y i z e) [ inl a ↦ inl a | inr b ↦ inr (ap suc b.0, b.1) ]

-- ---- texts

-- two texts are the same either way round
pub same_text_back : (u w : List ℕ) → bytes_eq u w ≡ bytes_eq w u
same_text_back u w = go (bytes_eq u w) (bytes_eq w u) refl refl
  where
    go : (x y : Test) → bytes_eq u w ≡ x → bytes_eq w u ≡ y → bytes_eq u w ≡ bytes_eq w u
    go true true a b = a ∙ sym b
    go false false a b = a ∙ sym b
    go true false a b = absurd (not_both ((bytes_eq-Decides w u).1 (sym ((bytes_eq-Decides u w).0 a))) b)
    go false true a b = absurd (not_both ((bytes_eq-Decides u w).1 (sym ((bytes_eq-Decides w u).0 b))) a)
