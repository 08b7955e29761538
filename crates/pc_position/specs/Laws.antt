-- Relations between positions and lines and columns.
use Rattle.std.specs.Prelude.{◌≡◌, ℕ, ◌+◌, ◌<◌, List, All}
use Rattle.pc_source.specs.Lines.{line_of, column_of}
use Rattle.pc_position.specs.declared.positions.Encoding.{Encoding}
use Rattle.pc_position.specs.declared.positions.Encoding.TheVariants.{Utf32}
use Rattle.pc_position.specs.Positions.{line_at, character_at}

-- lines are counted from 1, the lines of positions from 0
abbrev pub LinesFromOne : Type 0
LinesFromOne = (text : List ℕ) (byte : ℕ) → line_of text byte ≡ line_at text byte + 1

-- a column, from 1, is one more than the character of a position in UTF-32, from 0
abbrev pub ColumnsAreCharacters : Type 0
ColumnsAreCharacters = (text : List ℕ) (byte : ℕ) → column_of text byte ≡ character_at Utf32 text byte + 1

-- in a text of ASCII, the three encodings count alike
abbrev pub AlikeOnAscii : Type 0
AlikeOnAscii = (encoding : Encoding) (text : List ℕ) (byte : ℕ) → All (λ b. b < 128) text
    → column_of text byte ≡ character_at encoding text byte + 1
