-- Candidates for the keyword that a word is, and for the operator at a byte.
use Rattle.std.specs.Prelude.{ℕ, Bool, ◌&&◌, ◌||◌, ◌==◌, length, slice_index}
use Rattle.pc_token.specs.declared.token.Keyword.{Keyword}
use Rattle.pc_token.specs.Keywords.{keyword_text}

-- the keyword has this length and begins with this byte
abbrev pub may_be : ℕ → ℕ → Keyword → Bool
may_be len first k = length (keyword_text k) == len && slice_index (keyword_text k) 0 == first

-- the byte is second in some operator
abbrev pub stands_second : ℕ → Bool
stands_second b = b == 42 || (b == 46 || (b == 47 || (b == 60 || (b == 61 || b == 62))))
