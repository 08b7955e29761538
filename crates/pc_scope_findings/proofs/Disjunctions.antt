-- Two tests, the first of which decides, or the second.
use Rattle.std.proofs.Common.{◌≡◌, refl}
use Rattle.std.specs.Prelude.{Bool, true, false, ◌||◌}

-- the first of two decides, or the second
pub or_yes : (a b : Bool) → a ≡ true → (a || b) ≡ true
or_yes a b h = rw h refl

pub or_no : (a b : Bool) → a ≡ false → (a || b) ≡ b
or_no a b h = rw h refl
