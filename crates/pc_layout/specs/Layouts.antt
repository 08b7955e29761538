-- The layout of lines: their forest at column 0 written flat, if no line has a fault.
use Rattle.std.specs.Prelude.{◌≡◌, ℕ, ◌<◌, ◌≤◌, List, [], ◌∷◌, ◌++◌, length}
use Rattle.pc_source.specs.declared.fault.RefusalCode.{RefusalCode}
use Rattle.pc_token.specs.Lexeme.{Lexeme, LogicalLine}
use Rattle.pc_layout.specs.Forest.{Suite, lines_of, IsSuite}
use Rattle.pc_layout.specs.Flat.{flat}
use Rattle.pc_layout.specs.Faults.{HasFault}

-- no line has a fault
abbrev pub AreFaultless : ℕ → List LogicalLine → Type 0
AreFaultless len ls = (code : RefusalCode) (byte : ℕ) → ¬ (HasFault len [] ls code byte)

-- the tokens are the layout of the lines
pub record IsLayout (text : List ℕ) (ls : List LogicalLine) (tokens : List Lexeme) : Type 0 where
  pub forest : Suite
  pub its_lines : lines_of forest ≡ ls
  pub suite : IsSuite 0 forest
  pub faultless : AreFaultless (length text) ls
  pub written : tokens ≡ flat text forest

-- each token begins at or after this byte and where the one before ends, and is not empty
abbrev pub StandInOrder : ℕ → List Lexeme → Type 0
StandInOrder from [] = Unit {0}
StandInOrder from (x ∷ xs) = (from ≤ x.place.start) × (x.place.start < x.place.end) × StandInOrder x.place.end xs

-- the tokens of all lines, in order
abbrev pub all_lexemes : List LogicalLine → List Lexeme
all_lexemes [] = []
all_lexemes (l ∷ ls) = l.lexemes ++ all_lexemes ls

-- each line has a token
abbrev pub HaveTokens : List LogicalLine → Type 0
HaveTokens [] = Unit {0}
HaveTokens (l ∷ ls) = (0 < length l.lexemes) × HaveTokens ls

-- the lines are in order: each has a token, and each token begins at or after the end of the one before
pub record AreInOrder (ls : List LogicalLine) : Type 0 where
  pub tokens : HaveTokens ls
  pub order : StandInOrder 0 (all_lexemes ls)
