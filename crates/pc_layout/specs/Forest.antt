-- The forest of suites that lines are. Python Language Reference 3.12, 2.1.8 "Indentation", 8 "Compound statements"
-- (suite).
use Rattle.std.specs.Prelude.{◌≡◌, ℕ, ◌<◌, List, [], ◌∷◌, ◌++◌}
use Rattle.pc_token.specs.Lexeme.{LogicalLine}

-- a suite: no line, or a line, the deeper suite after it (of no line if there is none), and the lines after that
pub data Suite : Type 0 where
  nothing : Suite
  line : LogicalLine → Suite → Suite → Suite

-- the lines of a suite in text order
abbrev pub lines_of : Suite → List LogicalLine
lines_of nothing = []
lines_of (line l deeper others) = l ∷ (lines_of deeper ++ lines_of others)

-- a suite at this column: each line is at the column, and the suite after a line at a greater one
abbrev pub IsSuite : ℕ → Suite → Type 0
IsSuite column nothing = Unit {0}
IsSuite column (line l deeper others) = (l.column ≡ column) × ((d : ℕ) × (column < d) × IsSuite d deeper)
    × IsSuite column others
