-- Coding comments. Python Language Reference 3.12, 2.1.4 "Encoding declarations"; that only `utf-8` is accepted is an
-- own rule of the profile.
use Rattle.std.specs.Prelude.{◌≡◌, ◌≢◌, ℕ, ◌+◌, ◌<◌, ◌⊎◌, Bool, IsTrue, not, ◌&&◌, ◌||◌, ◌==◌, nat_eq, List, length}
use Rattle.std.specs.Prelude.{drop, slice_index, codes}
use Rattle.std.specs.List.{starts_with, prefix_len, before_first, after_first}

-- the text begins with `coding:` or `coding=`
abbrev pub names_coding : List ℕ → Bool
names_coding text = starts_with nat_eq text (codes "coding:") || starts_with nat_eq text (codes "coding=")

-- the text without its leading spaces
abbrev pub after_spaces : List ℕ → List ℕ
after_spaces text = drop (prefix_len (λ b. b == 32) text) text

-- the text begins with `coding:` or `coding=`, not followed, after any number of spaces, by `utf-8`
abbrev pub names_other_coding : List ℕ → Bool
names_other_coding text = names_coding text && not (starts_with nat_eq (after_spaces (drop 7 text)) (codes "utf-8"))

-- the line's first `#` is at the byte, and another coding is named after it
pub record IsCodingComment (line : List ℕ) (byte : ℕ) : Type 0 where
  pub within : byte < length line
  pub hash : slice_index line byte ≡ 35
  pub first : (k : ℕ) → k < byte → slice_index line k ≢ 35
  pub other : (k : ℕ) × (k < length line) × (byte < k) × IsTrue (names_other_coding (drop k line))

-- the text up to its first line feed
abbrev pub first_line : List ℕ → List ℕ
first_line text = before_first (λ b. b == 10) text

-- the text after its first line feed
abbrev pub later_lines : List ℕ → List ℕ
later_lines text = after_first (λ b. b == 10) text

-- a comment that names another coding begins at the byte, in line 1 or 2
abbrev pub IsCoding : List ℕ → ℕ → Type 0
IsCoding text byte = IsCodingComment (first_line text) byte
    ⊎ ((k : ℕ) × (byte ≡ length (first_line text) + 1 + k) × IsCodingComment (first_line (later_lines text)) k)
