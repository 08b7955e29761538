-- Gaps between tokens. Python Language Reference 3.12, 2.1.2 "Physical lines", 2.1.3 "Comments", 2.1.9 "Whitespace
-- between tokens".
use Rattle.std.specs.Prelude.{◌≡◌, ℕ, Bool, true, false, not, ◌&&◌, ◌||◌, ◌==◌, ◌⊎◌, List, [], ◌∷◌, length, drop}
use Rattle.std.specs.Prelude.{slice_index}
use Rattle.std.specs.List.{prefix_len, list_all}

-- a space or a tab
abbrev pub is_blank : ℕ → Bool
is_blank b = b == 32 || b == 9

-- a line feed or a carriage return
abbrev pub is_line_byte : ℕ → Bool
is_line_byte b = b == 10 || b == 13

-- the text begins with a line end: a line feed, or a carriage return and a line feed
abbrev pub starts_line_end : List ℕ → Bool
starts_line_end text = slice_index text 0 == 10 || (slice_index text 0 == 13 && slice_index text 1 == 10)

-- the text is empty, or begins with a comment or a line end
abbrev pub ends_line : List ℕ → Bool
ends_line text = length text == 0 || (slice_index text 0 == 35 || starts_line_end text)

-- the text without its leading spaces and tabs
abbrev pub after_blanks : List ℕ → List ℕ
after_blanks text = drop (prefix_len is_blank text) text

-- all spaces and tabs up to the rest, at least one
pub record IsBlanks (bytes rest : List ℕ) : Type 0 where
  pub some : length bytes ≡ 0 → ⊥
  pub blank : list_all is_blank bytes ≡ true
  pub all : is_blank (slice_index rest 0) ≡ false

-- a comment: from `#` to the end of its line
pub record IsComment (bytes rest : List ℕ) : Type 0 where
  pub hash : slice_index bytes 0 ≡ 35
  pub inside : list_all (λ b. not (is_line_byte b)) bytes ≡ true
  pub all : (length rest ≡ 0) ⊎ (is_line_byte (slice_index rest 0) ≡ true)

-- a line end: a line feed, or a carriage return and a line feed
abbrev pub IsLineEnd : List ℕ → Type 0
IsLineEnd bytes = (bytes ≡ 10 ∷ []) ⊎ (bytes ≡ 13 ∷ 10 ∷ [])
