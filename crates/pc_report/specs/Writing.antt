-- The bytes of a report that its device has received. Own rule of the profile.
use Rattle.std.specs.Prelude.{ℕ, List, Option, Result, MatchResult}
use Rattle.pc_source.specs.declared.counted.Counted.{Counted}
use Rattle.pc_source.specs.Taken.{TakesAll, TakesBeginning}
use Rattle.pc_report.specs.declared.writing.WriteFault.{WriteFault}

module _ {D : Type 0} (contents : D → Option (List ℕ)) where
  -- all bytes are written and no call failed; or a beginning is, and then a call failed
  abbrev pub IsWritten : List ℕ → Counted D → Counted D → Result (Unit {0}) WriteFault → Type 0
  IsWritten bytes old new result =
      MatchResult result (λ _. TakesAll contents bytes old new) (λ _. TakesBeginning contents bytes old new)
