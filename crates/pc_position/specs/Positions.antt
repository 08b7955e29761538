-- Positions as editors count them: line and character from 0. Language Server Protocol 3.17, "Position".
use Rattle.std.specs.Prelude.{◌≡◌, ℕ, ◌+◌, ◌<◌, ◌≤◌, List, take, length, sum_by, count_by, nat_lt, nat_le, if◌then◌else◌}
use Rattle.std.specs.Prelude.{◌==◌, ◌||◌, Option, None, Some}
use Rattle.std.specs.List.{after_last}
use Rattle.pc_position.specs.declared.positions.Encoding.{Encoding}
use Rattle.pc_position.specs.declared.positions.Encoding.TheVariants.{Utf8, Utf16, Utf32}
use Rattle.pc_position.specs.declared.positions.Position.{Position}

-- 1 at each byte where a character begins, otherwise 0: a character begins at each byte that is not a continuation
-- byte, 128 to 191, of UTF-8
abbrev pub begins : ℕ → ℕ
begins byte = if nat_lt byte 128 || nat_le 192 byte then 1 else 0

-- 1 at the first byte of a character of four bytes, otherwise 0: such a character has two units of UTF-16
abbrev pub begins_pair : ℕ → ℕ
begins_pair byte = if nat_le 240 byte then 1 else 0

-- the number of units of the encoding that begin at a byte of UTF-8
abbrev pub units : Encoding → ℕ → ℕ
units Utf8 byte = 1
units Utf16 byte = begins byte + begins_pair byte
units Utf32 byte = begins byte

-- the line of a byte: the number of line feeds before it
abbrev pub line_at : List ℕ → ℕ → ℕ
line_at text byte = count_by (λ b. b == 10) (take byte text)

-- the character of a byte: the number of units that begin in its line before it
abbrev pub character_at : Encoding → List ℕ → ℕ → ℕ
character_at encoding text byte = sum_by (units encoding) (after_last (λ b. b == 10) (take byte text))

-- the position is the byte's
pub record IsPositionOf (encoding : Encoding) (text : List ℕ) (byte : ℕ) (position : Position) : Type 0 where
  pub line : position.line ≡ line_at text byte
  pub character : position.character ≡ character_at encoding text byte

-- a byte of the text, or its end, has the position, and no later byte has it
pub record IsLastByte (encoding : Encoding) (text : List ℕ) (position : Position) (byte : ℕ) : Type 0 where
  pub within : byte ≤ length text
  pub has : IsPositionOf encoding text byte position
  pub last : (later : ℕ) → byte < later → later ≤ length text → ¬ (IsPositionOf encoding text later position)

-- the last byte that has a position; none if neither a byte of the text nor its end has it
abbrev pub IsByteAt : Encoding → List ℕ → Position → Option ℕ → Type 0
IsByteAt encoding text position (Some byte) = IsLastByte encoding text position byte
IsByteAt encoding text position None = (byte : ℕ) → byte ≤ length text → ¬ (IsPositionOf encoding text byte position)
