-- The source text: which bytes are one, and the refusal of all others. Python Language Reference 3.12, 2.1.4 "Encoding
-- declarations"; the limit and the refusals are own rules of the profile.
use Rattle.std.specs.Prelude.{◌≡◌, ℕ, ◌<◌, ◌≤◌, List, ◌∷◌, length, IsUtf8}
use Rattle.std.specs.Str.Lossy.{utf8_valid_len}
use Rattle.pc_source.specs.Control.{IsControl}
use Rattle.pc_source.specs.Coding.{IsCoding}
use Rattle.pc_source.specs.declared.fault.Refusal.{Refusal}
use Rattle.pc_source.specs.declared.fault.RefusalCode.{RefusalCode}
use Rattle.pc_source.specs.declared.fault.RefusalCode.TheVariants.{S1, S2, S3, S4, S5, L1, L2, L3, L4, L5, L6, L7, L8}
use Rattle.pc_source.specs.declared.fault.RefusalCode.TheVariants.{I1, I2, I3, N1, N2, N3, N4, N5, G1, G2}

-- the greatest length of a source, in bytes
abbrev pub source_limit : ℕ
source_limit = 1048576

-- the bytes begin with the byte order mark
abbrev pub IsMarked : List ℕ → Type 0
IsMarked bytes = (rest : List ℕ) × (bytes ≡ 0xEF ∷ 0xBB ∷ 0xBF ∷ rest)

-- the bytes are valid UTF-8 within the limit, without a byte order mark, a NUL, a form feed, a lone carriage return, or
-- a comment that names another coding
pub record IsText (bytes : List ℕ) : Type 0 where
  pub short : length bytes ≤ source_limit
  pub unmarked : ¬ (IsMarked bytes)
  pub utf8 : IsUtf8 bytes
  pub no_control : (k : ℕ) → ¬ (IsControl bytes k)
  pub no_coding : (k : ℕ) → ¬ (IsCoding bytes k)

-- the bytes are valid UTF-8 within the limit, without a byte order mark
pub record IsReadable (bytes : List ℕ) : Type 0 where
  pub short : length bytes ≤ source_limit
  pub unmarked : ¬ (IsMarked bytes)
  pub utf8 : IsUtf8 bytes

-- the first fault among the characters is a control character at the byte
pub record IsFirstControl (bytes : List ℕ) (byte : ℕ) : Type 0 where
  pub here : IsControl bytes byte
  pub no_control : (k : ℕ) → k < byte → ¬ (IsControl bytes k)
  pub no_coding : (k : ℕ) → k < byte → ¬ (IsCoding bytes k)

-- the first fault among the characters is a coding comment at the byte
pub record IsFirstCoding (bytes : List ℕ) (byte : ℕ) : Type 0 where
  pub here : IsCoding bytes byte
  pub no_control : (k : ℕ) → k ≤ byte → ¬ (IsControl bytes k)
  pub no_coding : (k : ℕ) → k < byte → ¬ (IsCoding bytes k)

-- the first fault among the characters has this code, S4 or S5, and is at this byte
abbrev pub IsCharacterFault : List ℕ → RefusalCode → ℕ → Type 0
IsCharacterFault bytes S4 byte = IsFirstControl bytes byte
IsCharacterFault bytes S5 byte = IsFirstCoding bytes byte
IsCharacterFault bytes _ byte = ⊥

-- why the bytes are no text, and at which byte: too long; a byte order mark; not UTF-8, at the end of the longest valid
-- prefix; otherwise the first fault among the characters
abbrev pub IsSourceFault : List ℕ → RefusalCode → ℕ → Type 0
IsSourceFault bytes S1 byte = (source_limit < length bytes) × (byte ≡ source_limit)
IsSourceFault bytes S2 byte = (length bytes ≤ source_limit) × (¬ (IsMarked bytes)) × (¬ (IsUtf8 bytes))
    × (byte ≡ utf8_valid_len bytes)
IsSourceFault bytes S3 byte = (length bytes ≤ source_limit) × IsMarked bytes × (byte ≡ 0)
IsSourceFault bytes code byte = IsReadable bytes × IsCharacterFault bytes code byte

-- the refusal of bytes that are no text
abbrev pub IsSourceRefusal : List ℕ → Refusal → Type 0
IsSourceRefusal bytes refusal = IsSourceFault bytes refusal.code refusal.byte
