-- Lexical contexts and results of the code that reads a line.
use Rattle.std.specs.Prelude.{◌≡◌, ℕ, ◌+◌, ◌<◌, ◌≤◌, ◌⊎◌, Bool, MatchBool, List, [], ◌∷◌, Some, Result, Err, length}
use Rattle.std.specs.Prelude.{vec_len, map, drop, slice_range}
use Rattle.std.specs.Str.{IsCharBoundary}
use Rattle.pc_source.specs.declared.fault.Refusal.{Refusal}
use Rattle.pc_source.specs.declared.fault.RefusalCode.{RefusalCode}
use Rattle.pc_source.specs.declared.fault.RefusalCode.TheVariants.{L5, L6}
use Rattle.pc_token.specs.declared.operators.Role.{Role}
use Rattle.pc_token.specs.declared.operators.Role.TheVariants.{Opens, Closes, Plain}
use Rattle.pc_token.specs.declared.token.Operator.{Operator}
use Rattle.pc_token.specs.declared.line_lexer.LineLexer.{LineLexer}
use Rattle.pc_token.specs.declared.line_lexer.FoundToken.{FoundToken}
use Rattle.pc_token.specs.declared.line_lexer.NextPiece.{NextPiece}
use Rattle.pc_token.specs.declared.line_lexer.NextPiece.TheVariants as n
use Rattle.pc_token.specs.Context.{LexicalContext, line_start, after_token, form_by_kind}
use Rattle.pc_token.specs.Faults.{IsFault, innermost, bracket_limit}
use Rattle.pc_token.specs.Lexeme.{LogicalLine, form_of, lexeme_of}
use Rattle.pc_token.specs.Splitting.{Sort, Blanks, Comment, LineEnd, Lexical, FitsBySort, Continues, close_line}

-- the lexical context of a reading
abbrev pub context_of : LineLexer → LexicalContext
context_of r = record {
  at = r.at;
  start = r.start;
  brackets = r.brackets.items;
  done = map lexeme_of r.tokens.items;
  last = r.last;
  ended = r.ended;
}

-- a piece of this sort, which fits here, goes from the context's byte to this end
pub record GoesTo (c : LexicalContext) (text : List ℕ) (sort : Sort) (end : ℕ) : Type 0 where
  pub later : c.at < end
  pub boundary : IsCharBoundary text end
  pub fits : FitsBySort c sort (slice_range text c.at end) (drop end text)

-- this token, which fits here, is next
pub record IsNextToken (c : LexicalContext) (text : List ℕ) (found : FoundToken) : Type 0 where
  pub piece : GoesTo c text (Lexical found.kind) found.end
  pub form : form_of (slice_range text c.at found.end) found.form
      ≡ form_by_kind found.kind (slice_range text c.at found.end)

-- this piece, which fits here, is next
abbrev pub IsNext : LexicalContext → List ℕ → NextPiece → Type 0
IsNext c text (n.Gap end) = GoesTo c text Blanks end ⊎ GoesTo c text Comment end
IsNext c text (n.LineEnd end) = GoesTo c text LineEnd end
IsNext c text (n.Token found) = IsNextToken c text found

-- this refusal is here, or in the gap that begins here
abbrev pub IsRefusedHere : LexicalContext → List ℕ → Refusal → Type 0
IsRefusedHere c text refusal = (k : ℕ) × (refusal.byte ≡ c.at + k) × IsFault c (drop c.at text) refusal.code k

-- the reason why an operator with this role is refused when these brackets are open
abbrev pub IsBracketFault : Role → List Operator → RefusalCode → Type 0
IsBracketFault Opens brackets code = (code ≡ L6) × (bracket_limit ≤ length brackets)
IsBracketFault (Closes opener) brackets code = (code ≡ L5) × (innermost brackets ≡ Some opener → ⊥)
IsBracketFault Plain brackets code = ⊥

-- the reading is after this token, which is added to the line
pub record TakesToken (old new : LineLexer) (found : FoundToken) : Type 0 where
  pub text : new.text.now ≡ old.text.now
  pub at : new.at ≡ found.end
  pub context : context_of new ≡ after_token (context_of old) found.kind (slice_range old.text.now old.at found.end)

-- the text from the reading's byte on gives these logical lines
abbrev pub LeavesFrom : LineLexer → List (Result LogicalLine Refusal) → Type 0
LeavesFrom r items = Continues (context_of r) (drop r.at r.text.now) items

-- the reading has read a line: its tokens, if any, are the next logical line, which ends at a line end if there is
-- more, otherwise at the end of the text
pub record ReadsLine (old new : LineLexer) (more : Bool) : Type 0 where
  pub text : new.text.now ≡ old.text.now
  pub boundary : IsCharBoundary new.text.now new.at
  pub none_open : new.brackets.items ≡ []
  pub later : MatchBool more ((old.at < new.at) × (0 < vec_len new.tokens)) (Unit {0})
  pub line : MatchBool more
      ((items : List (Result LogicalLine Refusal)) → Continues (line_start new.at) (drop new.at new.text.now) items
      → LeavesFrom old (close_line new.start (map lexeme_of new.tokens.items) items))
      (LeavesFrom old (close_line new.start (map lexeme_of new.tokens.items) []))

-- the text from the reading's byte on is refused before another logical line ends
abbrev pub IsRefusedLater : LineLexer → Refusal → Type 0
IsRefusedLater old refusal = LeavesFrom old (Err refusal ∷ [])
