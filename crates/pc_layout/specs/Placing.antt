-- The layout line by line: the open suites, and the effect of a line on them. (Laws in proofs/ relate this to the
-- forest of suites and to the refusals.)
use Rattle.std.specs.Prelude.{ℕ, ◌-◌, Bool, true, false, ◌&&◌, ◌||◌, ◌==◌, nat_lt, if◌then◌else◌, List, [], ◌∷◌, length}
use Rattle.std.specs.Prelude.{Option, Some, None, Result, Ok, Err}
use Rattle.std.specs.Str.{bytes_eq}
use Rattle.std.specs.Cmp.Lexicographic.{pointwise}
use Rattle.pc_source.specs.declared.fault.Refusal.{Refusal}
use Rattle.pc_source.specs.declared.fault.RefusalCode.{RefusalCode}
use Rattle.pc_source.specs.declared.fault.RefusalCode.TheVariants.{I1, I2, I3, N1, N2, N3, N4, N5}
use Rattle.pc_token.specs.declared.token.Keyword.TheVariants.{Def, Class}
use Rattle.pc_token.specs.declared.token.Operator.TheVariants.{At}
use Rattle.pc_token.specs.declared.token.TokenKind.{TokenKind}
use Rattle.pc_token.specs.declared.token.TokenKind.TheVariants as k
use Rattle.pc_token.specs.Lexeme.{Lexeme}
use Rattle.pc_layout.specs.Spelling.{first_byte, first_kind, forms, future_header, dataclass_header, any_header}
use Rattle.pc_layout.specs.Spelling.{dataclass_decorator, excludes_keyword, excludes_operator}
use Rattle.pc_layout.specs.Faults.{deepest}
use Rattle.pc_layout.specs.declared.levels.Level.{Level}

-- the context between two lines: the open suites, the innermost first, whether the last line ends with `:`, and whether
-- it begins with `def`
pub record LayoutContext : Type 0 where
  pub levels : List Level
  pub after_colon : Bool
  pub after_def : Bool

-- the column of the innermost open suite, 0 if none is open
abbrev pub column_of : List Level → ℕ
column_of [] = 0
column_of (v ∷ vs) = v.column

-- whether the innermost open suite is inside the suite of a line that begins with `def`
abbrev pub in_def_of : List Level → Bool
in_def_of [] = false
in_def_of (v ∷ vs) = v.in_def

-- the open suites without those deeper than this column
abbrev pub levels_up_to : ℕ → List Level → List Level
levels_up_to c [] = []
levels_up_to c (v ∷ vs) = if nat_lt c v.column then levels_up_to c vs else v ∷ vs

-- the placement of a line: the suites open at it, the number of DEDENTs before it, and whether an INDENT is
pub record Placement : Type 0 where
  pub levels : List Level
  pub dedents : ℕ
  pub indent : Bool

-- the placement of a line at this column that opens a suite: I2 if the last line does not end with `:`, I3 over the
-- limit
abbrev pub opening_placement : LayoutContext → ℕ → Result Placement RefusalCode
opening_placement x c = if x.after_colon
    then (if nat_lt (length x.levels) deepest
    then Ok (record {
      levels = record { column = c; in_def = in_def_of x.levels || x.after_def } ∷ x.levels;
      dedents = 0;
      indent = true;
    }) else Err I3)
    else Err I2

-- the placement of a line at this column that closes suites, or none: I1 if no open suite has the column
abbrev pub closing_placement : LayoutContext → ℕ → Result Placement RefusalCode
closing_placement x c = if column_of (levels_up_to c x.levels) == c
    then Ok (record {
      levels = levels_up_to c x.levels;
      dedents = length x.levels - length (levels_up_to c x.levels);
      indent = false;
    })
    else Err I1

-- the placement of a line at this column: it opens a suite if it is deeper than the innermost, otherwise it closes
-- suites
abbrev pub placement : LayoutContext → ℕ → Result Placement RefusalCode
placement x c = if nat_lt (column_of x.levels) c then opening_placement x c else closing_placement x c

-- the tokens are these words
abbrev pub is_spelled : List Lexeme → List (List ℕ) → Bool
is_spelled xs words = pointwise bytes_eq (forms xs) words

-- the tokens are one of the three import headers, at column 0
abbrev pub is_header : ℕ → List Lexeme → Bool
is_header column xs = (column == 0)
    && (is_spelled xs future_header || (is_spelled xs dataclass_header || is_spelled xs any_header))

-- the fault of the first token of a line, if any
abbrev pub opening_fault : Bool → ℕ → List Lexeme → Option TokenKind → Option RefusalCode
opening_fault in_def column xs (Some (k.Keyword Def)) = if in_def then Some N3 else None
opening_fault in_def column xs (Some (k.Keyword Class)) = if nat_lt 0 column then Some N4 else None
opening_fault in_def column xs (Some (k.Operator At)) = if is_spelled xs dataclass_decorator then None else Some N5
opening_fault in_def column xs _ = None

-- the fault of a token that the profile excludes
abbrev pub exclusion : Bool → TokenKind → Option RefusalCode
exclusion header (k.Keyword word) = if excludes_keyword word then (if header then None else Some N1) else None
exclusion header (k.Operator operator) = if excludes_operator operator then Some N2 else None
exclusion header _ = None

-- the refusal with this code at this byte, or the other if there is no code
abbrev pub refused_or : Option RefusalCode → ℕ → Option Refusal → Option Refusal
refused_or None byte other = other
refused_or (Some code) byte other = Some (record { code = code; byte = byte })

-- the refusal of the first token that the profile excludes
abbrev pub first_excluded : Bool → List Lexeme → Option Refusal
first_excluded header [] = None
first_excluded header (x ∷ xs) = refused_or (exclusion header x.kind) x.place.start (first_excluded header xs)

-- the refusal of the words of a line, if any
abbrev pub word_fault : ℕ → Bool → ℕ → List Lexeme → Option Refusal
word_fault len in_def column xs =
    refused_or (opening_fault in_def column xs (first_kind xs)) (first_byte len xs)
    (first_excluded (is_header column xs) xs)
