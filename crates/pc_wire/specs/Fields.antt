-- The length given in the header of a message. Language Server Protocol 3.17, "Header Part".
use Rattle.std.specs.Prelude.{ℕ, ◌+◌, ◌-◌, ◌*◌, ◌^◌, Bool, ◌==◌, ◌||◌, ◌&&◌, List, [], ◌∷◌, length, take, drop, map}
use Rattle.std.specs.Prelude.{nat_lt}
use Rattle.std.specs.Prelude.{codes, Option, None, Some, Result, Ok, Err, if◌then◌else◌, bytes_eq, option_and_then}
use Rattle.std.specs.List.{slice_split, before_first, after_first, prefix_len, suffix_len, position_or_len}
use Rattle.std.specs.Char.{to_ascii_lowercase, is_ascii_digit}
use Rattle.pc_wire.specs.declared.fault.HeaderFault.{HeaderFault}
use Rattle.pc_wire.specs.declared.fault.HeaderFault.TheVariants.{BadField, BadLength, NoLength, TwoLengths}

-- a space, a tab or a carriage return
abbrev pub is_blank : ℕ → Bool
is_blank b = b == 32 || (b == 9 || b == 13)

-- the text without the blanks at its front
abbrev pub without_front : List ℕ → List ℕ
without_front text = drop (prefix_len is_blank text) text

-- the text without the blanks at its front and at its end
abbrev pub trimmed : List ℕ → List ℕ
trimmed text = take (length (without_front text) - suffix_len is_blank (without_front text)) (without_front text)

-- the number with one more decimal digit; none if the byte is no digit or the number does not fit 64 bits
abbrev pub with_digit : ℕ → ℕ → Option ℕ
with_digit number byte =
    if is_ascii_digit byte && nat_lt (number * 10 + (byte - 48)) (2 ^ 64) then Some (number * 10 + (byte - 48))
    else None

-- the number with one more decimal digit, if there is a number
abbrev pub after_digit : Option ℕ → ℕ → Option ℕ
after_digit number byte = option_and_then (λ n. with_digit n byte) number

-- the number with more decimal digits, if there is a number
abbrev pub with_digits : Option ℕ → List ℕ → Option ℕ
with_digits number [] = number
with_digits number (byte ∷ bytes) = with_digits (after_digit number byte) bytes

-- the decimal number that the text spells: one or more digits and nothing else, and it fits 64 bits
abbrev pub number_in : List ℕ → Option ℕ
number_in text = if length text == 0 then None else with_digits (Some 0) text

-- the name of a field is `Content-Length`, in any case
abbrev pub names_length : List ℕ → Bool
names_length name = bytes_eq (map to_ascii_lowercase name) (codes "content-length")

-- the length of this field; a fault if it is no number, or if a length was found before
abbrev pub first_length : Option ℕ → Option ℕ → Result (Option ℕ) HeaderFault
first_length found None = Err BadLength
first_length None (Some length) = Ok (Some length)
first_length (Some before) (Some length) = Err TwoLengths

-- the length found so far, after one more line of the header: a line of only blanks is ignored, a line without a colon
-- is a fault, and fields of other names are ignored
abbrev pub with_line : Option ℕ → List ℕ → Result (Option ℕ) HeaderFault
with_line found line =
    if prefix_len is_blank line == length line then Ok found else (
    if position_or_len (λ b. b == 58) line == length line then Err BadField else (
    if names_length (before_first (λ b. b == 58) line)
    then first_length found (number_in (trimmed (after_first (λ b. b == 58) line))) else Ok found))

-- the length found so far or the first fault, after one more line of the header
abbrev pub after_line : Result (Option ℕ) HeaderFault → List ℕ → Result (Option ℕ) HeaderFault
after_line (Err fault) line = Err fault
after_line (Ok found) line = with_line found line

-- the length found in the whole header, or the fault that there is none
abbrev pub ended : Result (Option ℕ) HeaderFault → Result ℕ HeaderFault
ended (Err fault) = Err fault
ended (Ok None) = Err NoLength
ended (Ok (Some length)) = Ok length

-- the length or fault of a header, given the result of its earlier lines and its remaining lines
abbrev pub after_lines : Result (Option ℕ) HeaderFault → List (List ℕ) → Result ℕ HeaderFault
after_lines named [] = ended named
after_lines named (line ∷ lines) = after_lines (after_line named line) lines

-- the length that a header gives: that of its only field `Content-Length`
abbrev pub length_in : List ℕ → Result ℕ HeaderFault
length_in header = after_lines (Ok None) (slice_split (λ b. b == 10) header)
