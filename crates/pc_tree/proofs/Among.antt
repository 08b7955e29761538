-- Membership in lists, and the findings of a code at places.
use Rattle.std.proofs.Common.{◌≡◌, ◌⊎◌, List, [], ◌∷◌, ◌++◌, refl, sym, ap, subst, inl, inr, arith, Contains}
use Rattle.std.proofs.lemmas.List.Elements.{Contains-append_right, Contains-append_cases, Contains-push_cases}
use Rattle.pc_source.specs.declared.place.Place.{Place}
use Rattle.pc_tree.specs.declared.code.Code.{Code}
use Rattle.pc_tree.specs.declared.code.Finding.{Finding}
use Rattle.pc_tree.specs.Code.{finding, at_code}

-- nothing stands among nothing
pub none_among : {A : Type 0} (x : A) → Contains [] x → ⊥
none_among x c = omega (arith, c.1)

-- the first element is among all
pub first_among : {A : Type 0} (x : A) (xs : List A) → Contains (x ∷ xs) x
first_among x xs = (0, omega arith, refl)

-- each later element is among all
pub later_among : {A : Type 0} (x : A) (xs : List A) (y : A) → Contains xs y → Contains (x ∷ xs) y
later_among x xs y c = Contains-append_right (x ∷ []) xs y c

-- a list holds its first element, or one of the others
pub among_first : {A : Type 0} (x : A) (xs : List A) (y : A) → Contains (x ∷ xs) y → (x ≡ y) ⊎ Contains xs y
among_first x xs y h = elim (Contains-append_cases (x ∷ []) xs y h) [
  | inl a ↦ elim (Contains-push_cases [] x y a) [ inl b ↦ absurd (none_among y b) | inr c ↦ inl c ]
  | inr b ↦ inr b
]

-- a fact that follows from membership in either part of a list follows from membership in the whole
pub either : {A P : Type 0} (xs ys : List A) (x : A) → Contains (xs ++ ys) x → (Contains xs x → P) → (Contains ys x → P)
    → P
either xs ys x h f g = elim (Contains-append_cases xs ys x h) [ inl a ↦ f a | inr b ↦ g b ]

-- a code at places is found where its place is among them
pub in_code : (c : Code) (ps : List Place) (f : Finding) → Contains (at_code c ps) f → (f.code ≡ c)
    × Contains ps f.place
in_code c [] f h = absurd (none_among f h)
in_code c (p ∷ ps) f h = elim (among_first (finding p c) (at_code c ps) f h) [
  | inl e ↦ (sym (ap (λ g. g.code) e), subst (Contains (p ∷ ps)) (ap (λ g. g.place) e) (first_among p ps))
  | inr rest ↦ let r = in_code c ps f rest in (r.0, later_among p ps f.place r.1)
]

pub to_code : (c : Code) (ps : List Place) (p : Place) → Contains ps p → Contains (at_code c ps) (finding p c)
to_code c [] p h = absurd (none_among p h)
to_code c (q ∷ ps) p h = elim (among_first q ps p h) [
  | inl e ↦ subst (λ (x : Place). Contains (at_code c (q ∷ ps)) (finding x c)) e
      (first_among (finding q c) (at_code c ps))
  | inr rest ↦ later_among (finding q c) (at_code c ps) (finding p c) (to_code c ps p rest)
]
