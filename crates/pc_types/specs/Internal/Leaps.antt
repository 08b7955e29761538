-- The leaps to ancestors that parents keep: private to this crate.
-- Own rule of the profile.
use Rattle.std.specs.Prelude.{◌≡◌, ℕ, List, slice_get, Some, true}
use Rattle.pc_types.specs.Below.{Bases}
use Rattle.pc_types.specs.Join.{reaches}
use Rattle.pc_types.specs.declared.parents.Rung.{Rung}

-- the class leaps to itself or to an ancestor
abbrev pub IsLeap : Bases → ℕ → Rung → Type 0
IsLeap bases c r = reaches bases c c r.leap ≡ true

-- each class with a rung leaps to itself or to an ancestor
abbrev pub AreLeaps : Bases → List Rung → Type 0
AreLeaps bases rungs = (c : ℕ) (r : Rung) → slice_get rungs c ≡ Some r → IsLeap bases c r
