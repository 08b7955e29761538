-- The lexical refusals, each a condition on the text from a byte on. Own rules of the profile.
use Rattle.std.specs.Prelude.{◌≡◌, ℕ, ◌-◌, ◌<◌, ◌≤◌, true, false, ◌==◌, ◌⊎◌, List, ◌++◌, Option, Some, None, length}
use Rattle.std.specs.Prelude.{take, slice_index, slice_get}
use Rattle.std.specs.List.{list_all}
use Rattle.std.specs.Char.{is_ascii_digit}
use Rattle.pc_source.specs.declared.fault.RefusalCode.{RefusalCode}
use Rattle.pc_source.specs.declared.fault.RefusalCode.TheVariants.{L1, L2, L3, L4, L5, L6, L7, L8}
use Rattle.pc_token.specs.declared.token.Operator.{Operator}
use Rattle.pc_token.specs.declared.token.TokenKind.{TokenKind}
use Rattle.pc_token.specs.declared.token.TokenKind.TheVariants as t
use Rattle.pc_token.specs.Context.{LexicalContext, touches_word}
use Rattle.pc_token.specs.Gaps.{is_blank, starts_line_end, ends_line, after_blanks}
use Rattle.pc_token.specs.Names.{is_bad_name}
use Rattle.pc_token.specs.Numbers.{is_bad_number, is_bad_point, number_run, digit_count, digit_limit}
use Rattle.pc_token.specs.declared.operators.Role.TheVariants.{Opens, Closes}
use Rattle.pc_token.specs.Operators.{operator_text, role_of}
use Rattle.pc_token.specs.Spelling.{IsToken, IsLongest}
use Rattle.pc_token.specs.Strings.{is_quote, IsString, is_tripled}

-- the greatest number of open brackets
abbrev pub bracket_limit : ℕ
bracket_limit = 64

-- L1: a character that begins no gap, line end or token, and no quote either
pub record IsStray (text : List ℕ) : Type 0 where
  pub some : length text ≡ 0 → ⊥
  pub no_blank : is_blank (slice_index text 0) ≡ false
  pub no_comment : slice_index text 0 ≡ 35 → ⊥
  pub no_line_end : starts_line_end text ≡ false
  pub no_quote : is_quote (slice_index text 0) ≡ false
  pub no_token : (kind : TokenKind) (bytes rest : List ℕ) → text ≡ bytes ++ rest → IsToken kind bytes → ⊥

-- no string begins the text
abbrev pub NoString : List ℕ → Type 0
NoString text = (bytes rest : List ℕ) → text ≡ bytes ++ rest → IsString bytes → ⊥

-- L2: a quote that begins no string, or directly after a word or number, or that begins an empty string followed
-- directly by the same quote
abbrev pub IsBadString : LexicalContext → List ℕ → Type 0
IsBadString c text = (is_quote (slice_index text 0) ≡ true)
    × (NoString text ⊎ (touches_word c ≡ true) ⊎ (is_tripled text ≡ true))

-- L3: digits that are no number as it may be written here, or a point followed directly by a digit
abbrev pub IsBadDigits : List ℕ → Type 0
IsBadDigits text = ((is_ascii_digit (slice_index text 0) ≡ true) × (is_bad_number text ≡ true))
    ⊎ (is_bad_point text ≡ true)

-- L4: a name that may not be used here
abbrev pub IsBadName : LexicalContext → List ℕ → Type 0
IsBadName c text = (bytes : List ℕ) × (rest : List ℕ) × (text ≡ bytes ++ rest) × IsLongest t.Name bytes rest
    × (is_bad_name c.last bytes ≡ true)

-- the innermost open bracket
abbrev pub innermost : List Operator → Option Operator
innermost brackets = slice_get brackets (length brackets - 1)

-- L5: a closing bracket that does not match the innermost open one, or an open bracket at the end of the text
abbrev pub IsBadClosing : LexicalContext → List ℕ → Type 0
IsBadClosing c text = ((length text ≡ 0) × (length c.brackets ≡ 0 → ⊥))
    ⊎ ((o : Operator) × (opener : Operator) × (rest : List ℕ) × (text ≡ operator_text o ++ rest)
    × (role_of o ≡ Closes opener) × (innermost c.brackets ≡ Some opener → ⊥))

-- L6: an opening bracket when the greatest number is open already
abbrev pub IsBadOpening : LexicalContext → List ℕ → Type 0
IsBadOpening c text = (o : Operator) × (rest : List ℕ) × (text ≡ operator_text o ++ rest) × (role_of o ≡ Opens)
    × (bracket_limit ≤ length c.brackets)

-- L7: the first tab in the indentation of a line that has more than a comment
pub record IsBadTab (c : LexicalContext) (text : List ℕ) (k : ℕ) : Type 0 where
  pub fresh : c.last ≡ None
  pub spaces : list_all (λ b. b == 32) (take k text) ≡ true
  pub within : k < length text
  pub tab : slice_index text k ≡ 9
  pub more : ends_line (after_blanks text) ≡ false

-- L8: a number with more digits than the limit
abbrev pub IsLongNumber : List ℕ → Type 0
IsLongNumber text = (is_ascii_digit (slice_index text 0) ≡ true) × (is_bad_number text ≡ false)
    × (digit_limit < digit_count (number_run text))

-- the refusal of this code, k bytes on from here
abbrev pub IsFault : LexicalContext → List ℕ → RefusalCode → ℕ → Type 0
IsFault c text L1 k = (k ≡ 0) × IsStray text
IsFault c text L2 k = (k ≡ 0) × IsBadString c text
IsFault c text L3 k = (k ≡ 0) × IsBadDigits text
IsFault c text L4 k = (k ≡ 0) × IsBadName c text
IsFault c text L5 k = (k ≡ 0) × IsBadClosing c text
IsFault c text L6 k = (k ≡ 0) × IsBadOpening c text
IsFault c text L7 k = IsBadTab c text k
IsFault c text L8 k = (k ≡ 0) × IsLongNumber text
IsFault c text _ k = ⊥
