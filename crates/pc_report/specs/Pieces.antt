-- The bytes of a buffered output that have reached their device. Own rule of the profile.
use Rattle.std.specs.Prelude.{◌≡◌, ℕ, List, ◌++◌, Option, MatchBool}
use Rattle.pc_source.specs.declared.counted.Counted.{Counted}
use Rattle.pc_source.specs.Taken.{TakesAll, TakesBeginning}
use Rattle.pc_report.specs.declared.pieces.Pieces.{Pieces}

module _ {D : Type 0} (contents : D → Option (List ℕ)) where
  -- Of the bytes put since the start, the device has all but those held, if no call failed; otherwise it has a
  -- beginning of them.
  abbrev pub IsOnItsWay : (put : List ℕ) (start now : Counted D) → Pieces → Type 0
  IsOnItsWay put start now pieces =
      MatchBool pieces.failed (TakesBeginning contents put start now)
      ((taken : List ℕ) × TakesAll contents taken start now × (taken ++ pieces.held.items ≡ put))

  -- these bytes are put after all those put before
  abbrev pub Puts : (bytes : List ℕ) (old new : Counted D) (before after : Pieces) → Type 0
  Puts bytes old new before after = (put : List ℕ) (start : Counted D)
      → IsOnItsWay put start old before → IsOnItsWay (put ++ bytes) start new after
