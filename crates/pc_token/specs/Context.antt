-- The lexical context at a byte: everything before it that decides what may come next.
use Rattle.std.specs.Prelude.{ℕ, ◌+◌, ◌-◌, Bool, true, false, ◌&&◌, ◌==◌, List, [], ◌∷◌, ◌++◌, Option, Some, None}
use Rattle.std.specs.Prelude.{length, take}
use Rattle.pc_token.specs.declared.token.Operator.{Operator}
use Rattle.pc_token.specs.declared.token.TokenKind.{TokenKind}
use Rattle.pc_token.specs.declared.token.TokenKind.TheVariants as t
use Rattle.pc_token.specs.Lexeme.{Lexeme}
use Rattle.pc_token.specs.Names.{name_form}
use Rattle.pc_token.specs.declared.operators.Role.{Role}
use Rattle.pc_token.specs.declared.operators.Role.TheVariants.{Opens, Closes, Plain}
use Rattle.pc_token.specs.Operators.{role_of}

-- a lexical context: the byte; where the logical line begins; the open brackets, the innermost last; the line's tokens
-- so far, the kind of the last of them, and where it ends
pub record LexicalContext : Type 0 where
  pub at : ℕ
  pub start : ℕ
  pub brackets : List Operator
  pub done : List Lexeme
  pub last : Option TokenKind
  pub ended : ℕ

-- the context at the start of a logical line
abbrev pub line_start : ℕ → LexicalContext
line_start at = record { at = at; start = at; brackets = []; done = []; last = None; ended = at }

-- the last token is a name, a keyword or a number
abbrev pub is_word : Option TokenKind → Bool
is_word (Some t.Name) = true
is_word (Some t.Int) = true
is_word (Some (t.Keyword _)) = true
is_word _ = false

-- a name, a keyword or a number ends at the byte
abbrev pub touches_word : LexicalContext → Bool
touches_word c = is_word c.last && c.ended == c.at

-- the context after bytes that are no token and end no line
abbrev pub after_gap : LexicalContext → List ℕ → LexicalContext
after_gap c bytes = record c { at = c.at + length bytes }

-- the context after a line end, which ends the logical line if no bracket is open
abbrev pub after_line_end : List Operator → LexicalContext → List ℕ → LexicalContext
after_line_end [] c bytes = line_start (c.at + length bytes)
after_line_end (_ ∷ _) c bytes = after_gap c bytes

-- the open brackets after an operator
abbrev pub brackets_by_role : Role → Operator → List Operator → List Operator
brackets_by_role Opens o brackets = brackets ++ o ∷ []
brackets_by_role (Closes _) o brackets = take (length brackets - 1) brackets
brackets_by_role Plain o brackets = brackets

-- the open brackets after a token
abbrev pub brackets_after : TokenKind → List Operator → List Operator
brackets_after (t.Operator o) brackets = brackets_by_role (role_of o) o brackets
brackets_after _ brackets = brackets

-- the bytes by which a token is compared
abbrev pub form_by_kind : TokenKind → List ℕ → List ℕ
form_by_kind t.Name bytes = name_form bytes
form_by_kind _ bytes = bytes

-- the token that is made of these bytes, at this byte
abbrev pub lexeme_at : ℕ → TokenKind → List ℕ → Lexeme
lexeme_at at kind bytes =
    record {
      kind = kind;
      place = record { start = at; end = at + length bytes };
      text = bytes;
      form = form_by_kind kind bytes;
    }

-- the context after a token
abbrev pub after_token : LexicalContext → TokenKind → List ℕ → LexicalContext
after_token c kind bytes = record {
  at = c.at + length bytes;
  start = c.start;
  brackets = brackets_after kind c.brackets;
  done = c.done ++ lexeme_at c.at kind bytes ∷ [];
  last = Some kind;
  ended = c.at + length bytes;
}
