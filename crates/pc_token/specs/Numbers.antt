-- Whole numbers. Python Language Reference 3.12, 2.4.5 "Integer literals"; the refusals and the limit are own rules of
-- the profile.
use Rattle.std.specs.Prelude.{ℕ, Bool, true, not, ◌&&◌, ◌||◌, ◌==◌, List, [], ◌∷◌, drop, slice_index, codes, bytes_eq}
use Rattle.std.specs.Prelude.{count_by, take_while}
use Rattle.std.specs.List.{prefix_len, list_all}
use Rattle.std.specs.Char.{is_ascii_digit}
use Rattle.pc_token.specs.Names.{continues_word}

-- a digit or an underscore
abbrev pub is_number_byte : ℕ → Bool
is_number_byte b = is_ascii_digit b || b == 95

-- each underscore has a digit after it
abbrev pub underscores_fit : List ℕ → Bool
underscores_fit [] = true
underscores_fit (b ∷ bs) = (not (b == 95) || is_ascii_digit (slice_index bs 0)) && underscores_fit bs

-- `0`, or a digit from 1 to 9 and then digits with single underscores between digits
abbrev pub is_number : List ℕ → Bool
is_number bytes =
    bytes_eq bytes (codes "0")
    || ((is_ascii_digit (slice_index bytes 0) && not (slice_index bytes 0 == 48))
    && (list_all is_number_byte bytes && underscores_fit bytes))

-- the leading digits and underscores of the text
abbrev pub number_run : List ℕ → List ℕ
number_run text = take_while is_number_byte text

-- the text after its leading digits and underscores
abbrev pub after_number : List ℕ → List ℕ
after_number text = drop (prefix_len is_number_byte text) text

-- the leading digits and underscores are no number, or a name character or a point follows them
abbrev pub is_bad_number : List ℕ → Bool
is_bad_number text =
    not (is_number (number_run text)) || (continues_word (after_number text) || slice_index (after_number text) 0 == 46)

-- the text begins with a point followed directly by a digit
abbrev pub is_bad_point : List ℕ → Bool
is_bad_point text = slice_index text 0 == 46 && is_ascii_digit (slice_index text 1)

-- the number of digits, underscores not counted
abbrev pub digit_count : List ℕ → ℕ
digit_count bytes = count_by is_ascii_digit bytes

-- the greatest number of digits of a number
abbrev pub digit_limit : ℕ
digit_limit = 1000
