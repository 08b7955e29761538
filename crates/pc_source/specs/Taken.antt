-- The bytes that a counted device accepted of those written to it. Own rule of the profile.
use Rattle.std.specs.Prelude.{◌≡◌, ℕ, ◌<◌, List, length, take, true, Option}
use Rattle.std.specs.Io.KnownBytes.{Appends}
use Rattle.pc_source.specs.declared.counted.Counted.{Counted}
use Rattle.pc_source.specs.Devices.{failures_after}

module _ {D : Type 0} (contents : D → Option (List ℕ)) where
  -- the device accepted all of these bytes, and no call failed
  abbrev pub TakesAll : List ℕ → Counted D → Counted D → Type 0
  TakesAll bytes old new = Appends (contents old.device) (contents new.device) bytes × (new.failures ≡ old.failures)

  -- the device accepted a proper prefix of these bytes; then one call failed, the only one that did
  abbrev pub TakesBeginning : List ℕ → Counted D → Counted D → Type 0
  TakesBeginning bytes old new = (n : ℕ) × (n < length bytes)
      × Appends (contents old.device) (contents new.device) (take n bytes)
      × (new.failures ≡ failures_after true old.failures)
