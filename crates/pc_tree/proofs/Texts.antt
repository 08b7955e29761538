-- Two texts.
use Rattle.std.proofs.Common.{◌≡◌, ℕ, List, refl, ◌∙◌, sym, arith}
use Rattle.std.proofs.lemmas.Slice.Eq.{bytes_eq-Decides}
use Rattle.std.specs.Prelude.{Bool, true, false, bytes_eq}

-- two texts are the same either way round
pub turned : (u w : List ℕ) → bytes_eq u w ≡ bytes_eq w u
turned u w = go (bytes_eq u w) (bytes_eq w u) refl refl
  where
    go : (a b : Bool) → bytes_eq u w ≡ a → bytes_eq w u ≡ b → a ≡ b
    go true true e f = refl
    go false false e f = refl
    go true false e f = absurd (grind (arith, sym ((bytes_eq-Decides w u).1 (sym ((bytes_eq-Decides u w).0 e))) ∙ f))
    go false true e f = absurd (grind (arith, sym ((bytes_eq-Decides u w).1 (sym ((bytes_eq-Decides w u).0 f))) ∙ e))
