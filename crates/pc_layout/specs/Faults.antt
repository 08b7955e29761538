-- The refusals of the layout, each a condition on a line and on the lines before it, the latest first. Python Language
-- Reference 3.12, 2.1.8 "Indentation"; the limit of 50 and N1 to N5 are own rules of the profile.
use Rattle.std.specs.Prelude.{◌≡◌, ◌≢◌, ◌⊎◌, ℕ, ◌<◌, ◌≤◌, min, IsTrue, List, [], ◌∷◌, length, All, Contains}
use Rattle.pc_source.specs.declared.fault.Refusal.{Refusal}
use Rattle.pc_source.specs.declared.fault.RefusalCode.{RefusalCode}
use Rattle.pc_source.specs.declared.fault.RefusalCode.TheVariants.{I1, I2, I3, N1, N2, N3, N4, N5}
use Rattle.pc_token.specs.declared.token.Keyword.{Keyword}
use Rattle.pc_token.specs.declared.token.Keyword.TheVariants.{Def, Class}
use Rattle.pc_token.specs.declared.token.Operator.{Operator}
use Rattle.pc_token.specs.declared.token.Operator.TheVariants.{At}
use Rattle.pc_token.specs.declared.token.TokenKind.TheVariants as k
use Rattle.pc_token.specs.Lexeme.{Lexeme, LogicalLine}
use Rattle.pc_layout.specs.Spelling.{first_byte, BeginsWith, EndsInColon, IsSpelled, IsImportHeader, dataclass_decorator}
use Rattle.pc_layout.specs.Spelling.{excludes_keyword, excludes_operator}

-- a suite of this column is open after these lines: going back, the first line that is not deeper has this column
abbrev pub IsOpen : ℕ → List LogicalLine → Type 0
IsOpen column [] = ⊥
IsOpen column (l ∷ ls) = (l.column ≡ column) ⊎ ((column < l.column) × IsOpen column ls)

-- a line of this column is inside the suite of a line with P: one less deep than the column and than each line after it
abbrev pub IsInside : (LogicalLine → Type 0) → ℕ → List LogicalLine → Type 0
IsInside P column [] = ⊥
IsInside P column (l ∷ ls) = ((l.column < column) × P l) ⊎ IsInside P (min column l.column) ls

-- the line is less deep than the one before, at a column that no open suite has
abbrev pub ReturnsNowhere : LogicalLine → List LogicalLine → Type 0
ReturnsNowhere l [] = ⊥
ReturnsNowhere l (before ∷ ls) = (l.column < before.column) × (¬ (IsOpen l.column (before ∷ ls)))

-- the line is the first and not at column 0, or it is deeper than the one before, which does not end with `:`
abbrev pub IsMisplaced : LogicalLine → List LogicalLine → Type 0
IsMisplaced l [] = l.column ≢ 0
IsMisplaced l (before ∷ ls) = (before.column < l.column) × (¬ (EndsInColon before))

-- the columns fall strictly, and all are over 0
abbrev pub IsFalling : List ℕ → Type 0
IsFalling [] = Unit {0}
IsFalling (c ∷ []) = 0 < c
IsFalling (c ∷ d ∷ cs) = (d < c) × IsFalling (d ∷ cs)

-- more than `limit` suites deeper than column 0 are open after these lines
abbrev pub AreOpen : ℕ → List LogicalLine → Type 0
AreOpen limit ls = (columns : List ℕ) × (limit < length columns) × IsFalling columns × All (λ c. IsOpen c ls) columns

-- the greatest number of nested suites deeper than column 0
abbrev pub deepest : ℕ
deepest = 50

-- the line has an excluded keyword at the byte, and is no import header
abbrev pub HasExcludedKeyword : LogicalLine → ℕ → Type 0
HasExcludedKeyword l byte =
    (x : Lexeme) × (word : Keyword) × Contains l.lexemes x × (x.kind ≡ k.Keyword word) × IsTrue (excludes_keyword word)
    × (¬ (IsImportHeader l)) × (byte ≡ x.place.start)

-- the line has an excluded operator at the byte
abbrev pub HasExcludedOperator : LogicalLine → ℕ → Type 0
HasExcludedOperator l byte =
    (x : Lexeme) × (operator : Operator) × Contains l.lexemes x × (x.kind ≡ k.Operator operator)
    × IsTrue (excludes_operator operator) × (byte ≡ x.place.start)

-- the fault of a line after these lines, with its code and byte; `len` is the length of the text
abbrev pub IsFault : ℕ → List LogicalLine → LogicalLine → RefusalCode → ℕ → Type 0
IsFault len before l I1 byte = ReturnsNowhere l before × (byte ≡ first_byte len l.lexemes)
IsFault len before l I2 byte = IsMisplaced l before × (byte ≡ first_byte len l.lexemes)
IsFault len before l I3 byte = AreOpen deepest (l ∷ before) × (byte ≡ first_byte len l.lexemes)
IsFault len before l N1 byte = HasExcludedKeyword l byte
IsFault len before l N2 byte = HasExcludedOperator l byte
IsFault len before l N3 byte = BeginsWith (k.Keyword Def) l × IsInside (BeginsWith (k.Keyword Def)) l.column before
    × (byte ≡ first_byte len l.lexemes)
IsFault len before l N4 byte = BeginsWith (k.Keyword Class) l × (0 < l.column) × (byte ≡ first_byte len l.lexemes)
IsFault len before l N5 byte = BeginsWith (k.Operator At) l × (¬ (IsSpelled dataclass_decorator l))
    × (byte ≡ first_byte len l.lexemes)
IsFault len before l _ byte = ⊥

-- one of these lines has this fault, after the lines before it
abbrev pub HasFault : ℕ → List LogicalLine → List LogicalLine → RefusalCode → ℕ → Type 0
HasFault len before [] code byte = ⊥
HasFault len before (l ∷ ls) code byte = IsFault len before l code byte ⊎ HasFault len (l ∷ before) ls code byte

-- the rank of a code among faults at the same byte, the least first
abbrev pub code_rank : RefusalCode → ℕ
code_rank I1 = 1
code_rank I2 = 2
code_rank I3 = 3
code_rank N1 = 4
code_rank N2 = 5
code_rank N3 = 6
code_rank N4 = 7
code_rank N5 = 8
code_rank _ = 0

-- the refusal of the lines: one of their faults, the one with the least byte, and of the least rank at that byte
pub record IsLayoutRefusal (len : ℕ) (ls : List LogicalLine) (refusal : Refusal) : Type 0 where
  pub fault : HasFault len [] ls refusal.code refusal.byte
  pub least : (code : RefusalCode) (byte : ℕ) → HasFault len [] ls code byte
      → (refusal.byte < byte) ⊎ ((refusal.byte ≡ byte) × (code_rank refusal.code ≤ code_rank code))
