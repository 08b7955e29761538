-- Truth values: true is not false, and the values of the parts of `||`.
use Rattle.std.proofs.Common.{◌≡◌, refl, sym, ◌∙◌, inl, inr, true≢false}
use Rattle.std.specs.Prelude.{◌⊎◌, Bool as Test, true, false, ◌||◌, not}
use Rattle.std.proofs.lemmas.Bool.{or_parts, not-true}

-- a truth value is not both
pub not_both : {b : Test} → b ≡ true → b ≡ false → ⊥
not_both e f = true≢false (sym e ∙ f)

-- `a || b` holds by a, or by b where a does not hold
pub or_in_turn : (a b : Test) → (a || b) ≡ true → (a ≡ true) ⊎ ((a ≡ false) × (b ≡ true))
or_in_turn true b e = inl refl
or_in_turn false b e = inr (refl, e)

-- where `a || b` does not hold, neither does
pub neither : (a b : Test) → not (a || b) ≡ true → (a ≡ false) × (b ≡ false)
neither a b e = or_parts a b (not-true (a || b) e)
