-- Tokens and logical lines, independent of their layout in memory.
use Rattle.std.specs.Prelude.{ℕ, List, map, Option, Some, None, String, string_bytes}
use Rattle.std.specs.Borrow.{Bor}
use Rattle.std.specs.Global.{Box}
use Rattle.std.specs.declared.alloc.Global.{Global}
use Rattle.pc_source.specs.declared.place.Place.{Place}
use Rattle.pc_token.specs.declared.token.TokenKind.{TokenKind}
use Rattle.pc_token.specs.declared.token.Token.{Token}
use Rattle.pc_token.specs.declared.token.Line.{Line}

-- a token: its kind, its place, the bytes with which it is spelled, and those by which it is compared
pub record Lexeme : Type 0 where
  pub kind : TokenKind
  pub place : Place
  pub text : List ℕ
  pub form : List ℕ

-- a logical line: the number of spaces before its first token, and its tokens
pub record LogicalLine : Type 0 where
  pub column : ℕ
  pub lexemes : List Lexeme

-- the bytes by which a token is compared: its normal form if it has one, otherwise its spelling
abbrev pub form_of : List ℕ → Option (Box (String Global)) → List ℕ
form_of text None = text
form_of text (Some form) = string_bytes form.value

-- a token of the program, independent of its layout in memory
abbrev pub lexeme_of : Token (Bor (List ℕ)) → Lexeme
lexeme_of t = record { kind = t.kind; place = t.place; text = t.text.now; form = form_of t.text.now t.form }

-- a logical line of the program, independent of its layout in memory
abbrev pub logical_line_of : Line → LogicalLine
logical_line_of l = record { column = l.column; lexemes = map lexeme_of l.tokens.items }
