-- State of the loops over the parts of a bracket.
use Rattle.std.specs.declared.convert.AsStr.{Ghosts as TextOf}
use Rattle.std.specs.declared.iter.Iterator.{Ghosts as TokensOf}
use Rattle.std.specs.Prelude.{ℕ, ◌≡◌, true, List, ◌++◌, Some, Result}
use Rattle.pc_source.specs.declared.fault.Fault.{Fault}
use Rattle.pc_token.specs.declared.token.Token.{Token}
use Rattle.pc_token.specs.declared.token.TokenKind.TheVariants as kind
use Rattle.pc_token.specs.declared.token.Operator.TheVariants as sign
use Rattle.pc_token.specs.Lexeme.{Lexeme}
use Rattle.pc_tree.specs.Tree.{Name, Expr, Exprs, Entries as EntryTrees, Keywords as KeywordTrees, no_keywords}
use Rattle.pc_grammar.specs.Grammar.{first_place}
use Rattle.pc_grammar.specs.Machine.{at}
use Rattle.pc_grammar.specs.Machine.States.{BracketPurpose, Stack, operand, item_due, key_due, naming}
use Rattle.pc_reader.specs.declared.reader.Reader.{Reader}
use Rattle.pc_reader.specs.declared.items.Items.{Items}
use Rattle.pc_reader.specs.declared.items.Entries.{Entries}
use Rattle.pc_reader.specs.declared.items.Keywords.{Keywords}
use Rattle.pc_reader.specs.Internal.Operands.{Starts}
use Rattle.pc_reader.specs.Internal.Brackets.{KeepsItems, KeepsEntries, KeepsKeywords}
use Rattle.pc_reader.specs.Reading.{IsAhead, Onward}

module _ {X I : Type 0} (texts : TextOf X) (source : TokensOf I (Result (Token X) Fault)) where
  -- items after those that stood before the loop, if those were kept
  pub record ElementsSoFar (kept : Type 0) (a b : Reader X I) (now : Items) (h : BracketPurpose) (xs : Exprs)
      (ts : List Lexeme) : Type 0 where
    pub items : Exprs
    pub more : List Lexeme
    pub keeps : kept → KeepsItems now items
    pub leads : (s : Stack) → Onward texts.text source.next_gives a b (at (item_due h xs ts s))
        (at (item_due h items (ts ++ more) s))

  -- entries, from the opening brace on
  pub record EntriesSoFar (a b : Reader X I) (start : ℕ) (now : Entries) : Type 0 where
    pub entries : EntryTrees
    pub tokens : List Lexeme
    pub starts : Starts tokens start
    pub begins : (t : Token X) → a.ahead ≡ Some t → first_place tokens ≡ t.place
    pub keeps : KeepsEntries now entries
    pub leads : (s : Stack) → IsAhead (kind.Operator sign.LeftBrace) a.ahead ≡ true
        → Onward texts.text source.next_gives a b (at (operand s)) (at (key_due entries tokens s))

  -- arguments by name, and the name of the next one
  pub record NamesSoFar (a b : Reader X I) (first : Name) (now : Keywords) (next : Name) (e : Expr) (xs : Exprs)
      (ts : List Lexeme) : Type 0 where
    pub arguments : KeywordTrees
    pub more : List Lexeme
    pub keeps : KeepsKeywords now arguments
    pub leads : (s : Stack) → Onward texts.text source.next_gives a b
        (at (operand (naming e xs no_keywords first ts s)))
        (at (operand (naming e xs arguments next (ts ++ more) s)))
