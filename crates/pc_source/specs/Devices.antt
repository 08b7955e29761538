-- Devices whose failed calls are counted. Own rule of the profile.
use Rattle.std.specs.Prelude.{ℕ, ◌+◌, ◌-◌, ◌^◌, ◌&&◌, ◌==◌, min, Bool, true, false, nat_lt, Result, Ok, Err}

-- whether a write of `len` bytes failed: with an error, or by accepting none although there were some
abbrev pub write_fails : {E : Type 0} → ℕ → Result ℕ E → Bool
write_fails len (Ok count) = (count == 0) && nat_lt 0 len
write_fails len (Err error) = true

-- the number of failed calls after one more call; it stops at its maximum
abbrev pub failures_after : Bool → ℕ → ℕ
failures_after true failures = min (failures + 1) (2 ^ 64 - 1)
failures_after false failures = failures
