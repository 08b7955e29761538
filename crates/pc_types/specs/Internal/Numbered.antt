-- Bases as plain numbers, which are faster to compare: private to this crate.
-- Own rule of the profile.
use Rattle.std.specs.Prelude.{◌≡◌, ℕ, List, slice_get, Some, unwrap_or}
use Rattle.pc_types.specs.Below.{Bases, base_of}

-- the number of a class's base, or of the class itself where it has none
abbrev pub base_number : Bases → ℕ → ℕ
base_number bases c = unwrap_or (base_of bases c) c

-- the number at a class's index is that of its base, or its own if it has no base
abbrev pub AreNumbers : Bases → List ℕ → Type 0
AreNumbers bases numbers = (c n : ℕ) → slice_get numbers c ≡ Some n → n ≡ base_number bases c
