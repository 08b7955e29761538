-- Membership in a list of distinct locals.
use Rattle.std.proofs.Common.{◌≡◌, ◌∙◌, ℕ, List, [], ◌∷◌, refl, sym, ap, subst, cond, eqb}
use Rattle.std.specs.Prelude.{Bool, true, false, ◌||◌, nat_eq}
use Rattle.std.specs.List.{dedup, dedup_from}
use Rattle.std.proofs.lemmas.Bool.{eqb-true}
use Rattle.pc_flow.specs.Agreement.{is_among}

twice : (a b : Bool) → (a || b) ≡ (a || (a || b))
twice true b = refl
twice false b = refl

among_from : (x k : ℕ) (xs : List ℕ) → is_among (dedup_from eqb k xs) x ≡ (nat_eq x k || is_among xs x)
among_from x k [] = refl
among_from x k (y ∷ ys) = go (eqb y k) refl (among_from x k ys) (among_from x y ys)
  where
    go : (b : Bool) → eqb y k ≡ b → is_among (dedup_from eqb k ys) x ≡ (nat_eq x k || is_among ys x)
        → is_among (dedup_from eqb y ys) x ≡ (nat_eq x y || is_among ys x)
        → is_among (cond b (dedup_from eqb k ys) (k ∷ dedup_from eqb y ys)) x
        ≡ (nat_eq x k || (nat_eq x y || is_among ys x))
    go true e h g = h ∙ subst (λ z. (nat_eq x k || is_among ys x) ≡ (nat_eq x k || (nat_eq x z || is_among ys x)))
        (sym (eqb-true y k e)) (twice (nat_eq x k) (is_among ys x))
    go false e h g = ap (λ b. nat_eq x k || b) g

-- numbers of which neighbours are told once
pub among_dedup : (x : ℕ) (xs : List ℕ) → is_among (dedup eqb xs) x ≡ is_among xs x
among_dedup x [] = refl
among_dedup x (k ∷ xs) = among_from x k xs
