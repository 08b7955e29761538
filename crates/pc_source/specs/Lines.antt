-- Lines and columns of a text, from 1. Own rule of the profile.
use Rattle.std.specs.Prelude.{ℕ, ◌+◌, List, take, count_by, nat_lt, nat_le, ◌==◌, ◌||◌}
use Rattle.std.specs.List.{after_last}

-- the line of a byte: one more than the line feeds before it
abbrev pub line_of : List ℕ → ℕ → ℕ
line_of text byte = count_by (λ b. b == 10) (take byte text) + 1

-- the column of a byte: one more than the characters that begin in its line before it (a character begins at each byte
-- that is not a continuation byte, 128 to 191, of UTF-8)
abbrev pub column_of : List ℕ → ℕ → ℕ
column_of text byte = count_by (λ b. nat_lt b 128 || nat_le 192 b) (after_last (λ b. b == 10) (take byte text)) + 1
