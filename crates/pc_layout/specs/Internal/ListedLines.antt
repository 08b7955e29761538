-- The iterator over the lines of a list.
use Rattle.std.specs.Prelude.{◌≡◌, List, [], ◌∷◌, Option, Result, MatchOption, MatchResult, map, drop}
use Rattle.pc_source.specs.declared.fault.Fault.{Fault}
use Rattle.pc_source.specs.declared.fault.Fault.TheVariants.{OutOfMemory}
use Rattle.pc_token.specs.declared.token.Line.{Line}
use Rattle.pc_token.specs.Lexeme.{LogicalLine, logical_line_of}
use Rattle.pc_layout.specs.declared.listed.Listed.{Listed}

-- the lines that are left
abbrev pub lines_left : Listed → List LogicalLine
lines_left s = map logical_line_of (drop s.at s.lines.now)

-- the iterator gives the first of the lines that are left, or an allocation failed
abbrev pub gives_line : Listed → Option (Result Line Fault) → Listed → Type 0
gives_line s r t = MatchOption r ((lines_left s ≡ []) × (lines_left t ≡ []))
    (λ i. MatchResult i (λ l. lines_left s ≡ logical_line_of l ∷ lines_left t) (λ e. e ≡ OutOfMemory))
