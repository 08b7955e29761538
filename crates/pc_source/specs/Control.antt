-- Control characters that no source text contains. Own rule of the profile.
use Rattle.std.specs.Prelude.{◌≡◌, ◌≢◌, ℕ, ◌+◌, ◌<◌, ◌⊎◌, List, length, slice_index}

-- at the byte is a NUL, a form feed, or a carriage return that no line feed follows
pub record IsControl (text : List ℕ) (byte : ℕ) : Type 0 where
  pub within : byte < length text
  pub control : (slice_index text byte ≡ 0) ⊎ (slice_index text byte ≡ 12)
      ⊎ ((slice_index text byte ≡ 13) × (slice_index text (byte + 1) ≢ 10))
