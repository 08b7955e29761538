-- The front of a line that is shown.
use Rattle.std.specs.List.{prefix_len, suffix_len}
use Rattle.std.specs.Prelude.{IsUtf8, slice_range}
use Rattle.std.specs.Str.{IsTrimAscii, IsValidUpTo}
use Rattle.std.specs.Str.Lossy.{utf8_valid_len}
use Rattle.std.proofs.Common.{◌≡◌, ℕ, ◌+◌, ◌-◌, ◌≤◌, List, length, take, drop, refl, sym, ap, ap₂, ◌∙◌, subst}
use Rattle.std.proofs.Common.{arith, le-leb}
use Rattle.std.proofs.lemmas.List.{take_all}
use Rattle.std.proofs.lemmas.Str.{utf8_valid_len-IsUtf8}
use Rattle.std.proofs.lemmas.Str.Ascii.{trim_ascii_is}
use Rattle.pc_documents.specs.Declarations.{is_in_line, line_around, without_indentation, bare_line}
use Rattle.pc_documents.specs.Declarations.{whole_characters}

-- the line of a byte of the text
pub line_is : (text : List ℕ) (byte : ℕ) (before after line : List ℕ) (a b : ℕ) → byte ≤ length text
    → before ≡ take byte text → after ≡ drop byte text → a ≡ suffix_len is_in_line before
    → b ≡ prefix_len is_in_line after → line ≡ slice_range text (byte - a) (byte + b) → line ≡ line_around text byte
line_is text byte before after line a b within front back starts ends is =
    rw (le-leb byte (length text) within) (is ∙ ap₂ (λ x y. slice_range text (byte - x) (byte + y))
    (starts ∙ ap (suffix_len is_in_line) front) (ends ∙ ap (prefix_len is_in_line) back))

-- a line that was trimmed
pub trim_is : (line result : List ℕ) → IsTrimAscii line result → result ≡ bare_line line
trim_is line result h = trim_ascii_is line result (without_indentation line) refl h

-- a text in UTF-8 is whole
pub whole_is : (bytes text : List ℕ) → text ≡ bytes → IsUtf8 bytes → text ≡ whole_characters bytes
whole_is bytes text same utf8 =
    let long : utf8_valid_len bytes ≡ length bytes = utf8_valid_len-IsUtf8 bytes utf8 in
    same ∙ sym (take_all (utf8_valid_len bytes) bytes (omega (arith, long)))

-- the front up to the first byte that is no UTF-8
pub front_is : (bytes front text : List ℕ) (n m : ℕ) → front ≡ take n bytes → n ≡ m → m ≡ utf8_valid_len bytes
    → text ≡ front → text ≡ whole_characters bytes
front_is bytes front text n m first count valid same = same ∙ (first ∙ ap (λ k. take k bytes) (count ∙ valid))

-- that front is UTF-8
pub front_reads : (bytes front text : List ℕ) (n m : ℕ) → front ≡ take n bytes → n ≡ m → IsValidUpTo bytes m
    → ¬ (IsUtf8 front) → text ≡ whole_characters bytes
front_reads bytes front text n m first count valid broken =
    absurd (broken (subst IsUtf8 (sym (first ∙ ap (λ k. take k bytes) count)) valid.front))

-- a line within the limit is shown whole
pub short_is : (line : List ℕ) → length line ≤ 200 → whole_characters line ≡ whole_characters (take 200 line)
short_is line short = ap whole_characters (sym (take_all 200 line short))
