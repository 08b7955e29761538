-- For private clauses: how much of a header and of a message was read.
use Rattle.std.specs.Prelude.{◌≡◌, ℕ, ◌<◌, Bool, true, false, List, [], length, Option}
use Rattle.std.specs.Io.KnownBytes.{IsAtEnd}
use Rattle.pc_source.specs.Devices.{failures_after}
use Rattle.pc_source.specs.declared.counted.Counted.{Counted}
use Rattle.pc_wire.specs.declared.fault.FrameFault.{FrameFault}
use Rattle.pc_wire.specs.declared.fault.FrameFault.TheVariants.{Read, Cut, LongHeader}
use Rattle.pc_wire.specs.Frames.{IsHeader, IsUnended, header_limit}
use Rattle.pc_wire.specs.Faults.{Gives}

module _ {D : Type 0} (remaining : D → Option (List ℕ)) where
  -- a whole header was read, or the device had no byte left
  abbrev pub IsHeaderRead : Bool → List ℕ → Counted D → Counted D → Type 0
  IsHeaderRead true bytes old new = Gives remaining bytes old new × IsHeader bytes
  IsHeaderRead false bytes old new = Gives remaining bytes old new × (bytes ≡ []) × IsAtEnd (remaining new.device)

  -- why no header was read
  abbrev pub OnHeaderFault : List ℕ → Counted D → Counted D → FrameFault → Type 0
  OnHeaderFault bytes old new Read = new.failures ≡ failures_after true old.failures
  OnHeaderFault bytes old new Cut = Gives remaining bytes old new × (IsUnended bytes × (0 < length bytes))
      × IsAtEnd (remaining new.device)
  OnHeaderFault bytes old new LongHeader = Gives remaining bytes old new
      × (IsUnended bytes × (length bytes ≡ header_limit))
  OnHeaderFault bytes old new _ = ⊥

  -- exactly `len` bytes were read
  abbrev pub IsBodyRead : ℕ → List ℕ → Counted D → Counted D → Type 0
  IsBodyRead len bytes old new = Gives remaining bytes old new × (length bytes ≡ len)

  -- why fewer than `len` bytes were read
  abbrev pub OnBodyFault : ℕ → List ℕ → Counted D → Counted D → FrameFault → Type 0
  OnBodyFault len bytes old new Read = new.failures ≡ failures_after true old.failures
  OnBodyFault len bytes old new Cut = Gives remaining bytes old new × (length bytes < len)
      × IsAtEnd (remaining new.device)
  OnBodyFault len bytes old new _ = ⊥

  -- exactly `len` bytes were read and discarded
  abbrev pub IsSkipped : ℕ → Counted D → Counted D → Type 0
  IsSkipped len old new = (bytes : List ℕ) × IsBodyRead len bytes old new

  -- why fewer than `len` bytes were read and discarded
  abbrev pub OnSkipFault : ℕ → Counted D → Counted D → FrameFault → Type 0
  OnSkipFault len old new fault = (bytes : List ℕ) × OnBodyFault len bytes old new fault
