-- The tokens left of the current line.
use Rattle.std.specs.Prelude.{ℕ, ◌+◌, Bool, true, false, if◌then◌else◌, List, [], ◌∷◌, length, map, reverse, vec_len}
use Rattle.std.specs.Prelude.{Result, Ok}
use Rattle.pc_source.specs.declared.fault.Fault.{Fault}
use Rattle.pc_token.specs.declared.token.TokenKind.TheVariants.{Newline, End}
use Rattle.pc_token.specs.Lexeme.{Lexeme, LogicalLine, lexeme_of}
use Rattle.pc_layout.specs.Flat.{empty_token}
use Rattle.pc_layout.specs.Stepping.{give, dedents, indents, layout_lexemes}
use Rattle.pc_layout.specs.TokenIterator.Levels.{context_of}
use Rattle.pc_layout.specs.declared.line_end.LineEnd.{LineEnd}
use Rattle.pc_layout.specs.declared.pending_line.PendingLine.{PendingLine}
use Rattle.pc_layout.specs.declared.pending_line.LineStage.{LineStage}
use Rattle.pc_layout.specs.declared.pending_line.LineStage.TheVariants as due

-- the end of a line as a NEWLINE
abbrev pub end_of_line : LineEnd → Lexeme
end_of_line e = record { kind = Newline; place = e.place; text = e.text.now; form = e.text.now }

-- the tokens left of the current line
abbrev pub line_tokens_left : PendingLine → List Lexeme
line_tokens_left h = map lexeme_of (reverse h.tokens.items)

-- the items that are left, by what is due, if these lines follow the current one
abbrev pub pending_by : LineStage → PendingLine → List (Result LogicalLine Fault) → List (Result Lexeme Fault)
pending_by due.Lines h ls = layout_lexemes h.text.now (context_of h.levels) ls
pending_by due.Line h ls =
    give (dedents h.dedents h.mark)
    (give (indents h.indent h.mark)
    (give (line_tokens_left h) (Ok (end_of_line h.end) ∷ layout_lexemes h.text.now (context_of h.levels) ls)))
pending_by due.End h ls = give (dedents h.dedents h.mark) (Ok (empty_token End (length h.text.now)) ∷ [])
pending_by due.Nothing h ls = []

-- the items that are left, if these lines follow the current one
abbrev pub pending : PendingLine → List (Result LogicalLine Fault) → List (Result Lexeme Fault)
pending h ls = pending_by h.due h ls

-- whether more lines may be requested
abbrev pub asks : LineStage → Bool
asks due.Lines = true
asks due.Line = true
asks due.End = false
asks due.Nothing = false

-- whether a token is ready
abbrev pub has_token : LineStage → Bool
has_token due.Lines = false
has_token due.Line = true
has_token due.End = true
has_token due.Nothing = false

-- the number of tokens that are ready, by what is due
abbrev pub count_at : LineStage → PendingLine → ℕ
count_at due.Lines h = 0
count_at due.Line h = h.dedents + ((if h.indent then 1 else 0) + (vec_len h.tokens + 1))
count_at due.End h = h.dedents + 1
count_at due.Nothing h = 0

-- the number of tokens that are ready
abbrev pub at_hand : PendingLine → ℕ
at_hand h = count_at h.due h
