-- The open suites of the code, as the definitions see them.
use Rattle.std.specs.Prelude.{◌≡◌, ℕ, List, reverse, Result, Ok, Err, MatchResult}
use Rattle.pc_source.specs.declared.fault.Refusal.{Refusal}
use Rattle.pc_token.specs.Lexeme.{Lexeme, LogicalLine}
use Rattle.pc_layout.specs.declared.levels.Level.{Level}
use Rattle.pc_layout.specs.declared.levels.Levels.{Levels}
use Rattle.pc_layout.specs.declared.levels.SuiteChange.{SuiteChange}
use Rattle.pc_layout.specs.Placing.{LayoutContext, Placement}
use Rattle.pc_layout.specs.Stepping.{step, after}

-- the context between two lines
abbrev pub context_of : Levels → LayoutContext
context_of v = record { levels = reverse v.suites.items; after_colon = v.after_colon; after_def = v.after_def }

-- the placement with these open suites, DEDENTs and INDENT
abbrev pub placed_by : List Level → SuiteChange → Placement
placed_by vs s = record { levels = vs; dedents = s.dedents; indent = s.indent }

-- a line at this column with these tokens
abbrev pub line_of_tokens : ℕ → List Lexeme → LogicalLine
line_of_tokens column xs = record { column = column; lexemes = xs }

-- the line is placed and this context follows, or it is refused
abbrev pub StepsTo : ℕ → LayoutContext → LogicalLine → Result SuiteChange Refusal → LayoutContext → Type 0
StepsTo len x l r y =
    MatchResult r (λ s. (step len x l ≡ Ok (placed_by y.levels s)) × (y ≡ after (placed_by y.levels s) l.lexemes))
    (λ e. step len x l ≡ Err e)
