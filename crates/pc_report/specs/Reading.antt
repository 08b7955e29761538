-- The bytes read from a device. Own rule of the profile.
use Rattle.std.specs.Prelude.{◌≡◌, ℕ, ◌<◌, ◌≤◌, List, length, Option}
use Rattle.std.specs.Io.KnownBytes.{Consumes, IsAtEnd}
use Rattle.pc_source.specs.declared.counted.Counted.{Counted}
use Rattle.pc_report.specs.declared.reading.ReadFault.{ReadFault}
use Rattle.pc_report.specs.declared.reading.ReadFault.TheVariants.{OutOfMemory, Read}

-- one condition for a failed allocation, and another for a failed read
abbrev pub OnReadFault : ReadFault → Type 0 → Type 0 → Type 0
OnReadFault OutOfMemory wanting failed = wanting
OnReadFault Read wanting failed = failed

-- a device gave these bytes, at most that number, and no call failed; if they are fewer, it has no more
pub record IsRead {D : Type 0} (remaining : D → Option (List ℕ)) (most : ℕ) (bytes : List ℕ)
    (old new : Counted D) : Type 0 where
  pub given : Consumes (remaining old.device) (remaining new.device) bytes
  pub short : length bytes ≤ most
  pub whole : length bytes < most → IsAtEnd (remaining new.device)
  pub failures : new.failures ≡ old.failures
