-- Results of the functions that read literals.
use Rattle.std.specs.declared.convert.AsStr.{Ghosts as TextOf}
use Rattle.std.specs.declared.iter.Iterator.{Ghosts as TokensOf}
use Rattle.std.specs.Prelude.{ℕ, ◌≡◌, ◌≤◌, ◌<◌, Bool, true, false, [], ◌∷◌, Option, Some, None, Result}
use Rattle.std.specs.Prelude.{MatchResult}
use Rattle.pc_source.specs.declared.fault.Fault.{Fault}
use Rattle.pc_token.specs.declared.token.Token.{Token}
use Rattle.pc_token.specs.declared.token.TokenKind.{TokenKind}
use Rattle.pc_token.specs.declared.token.TokenKind.TheVariants as kind
use Rattle.pc_token.specs.declared.token.Keyword.TheVariants as word
use Rattle.pc_token.specs.declared.token.Operator.TheVariants as sign
use Rattle.pc_token.specs.Lexeme.{Lexeme}
use Rattle.pc_tree.specs.declared.tree.Literal.{Literal as RustLiteral}
use Rattle.pc_tree.specs.Tree.{Literal, literal_of, option_literal_of}
use Rattle.pc_grammar.specs.Machine.{at}
use Rattle.pc_grammar.specs.Machine.Kinds.{same_kind}
use Rattle.pc_grammar.specs.Machine.States.{LiteralContext, State, literal_due, minus_read, literal_read, Transition}
use Rattle.pc_grammar.specs.Machine.States.{go, on}
use Rattle.pc_grammar.specs.Machine.Finishing.{finish_literal}
use Rattle.pc_grammar.specs.Machine.Lines.{literal_turn}
use Rattle.pc_reader.specs.declared.reader.Reader.{Reader}
use Rattle.pc_reader.specs.Reading.{Blames, Came, Onward, IsReady, left_in}
use Rattle.pc_reader.specs.Internal.StatesAhead.{StandsBefore, LeadsTo}

-- a token of this kind is a literal by itself
abbrev pub is_literal_kind : TokenKind → Bool
is_literal_kind kind.Int = true
is_literal_kind kind.Str = true
is_literal_kind (kind.Keyword word.True) = true
is_literal_kind (kind.Keyword word.False) = true
is_literal_kind (kind.Keyword word.None) = true
is_literal_kind _ = false

-- the token ahead is a literal by itself
abbrev pub literal_ahead : {X : Type 0} → Option (Token X) → Bool
literal_ahead None = false
literal_ahead (Some t) = is_literal_kind t.kind

-- the literal that the token is
abbrev pub IsLiteral : Lexeme → RustLiteral → Type 0
IsLiteral t l = (c : LiteralContext) → literal_turn c t t.kind ≡ go (literal_read c (literal_of l))

-- the turn where a default is optional: `=` begins it, any other token does what it does without one
abbrev pub opens_literal : LiteralContext → (TokenKind → Transition) → TokenKind → Transition
opens_literal c other k = on (same_kind k (kind.Operator sign.Equal)) (literal_due c) (other k)

-- the turn after an optional default
abbrev pub or_literal : LiteralContext → (TokenKind → Transition) → Option Literal → TokenKind → Transition
or_literal c other None k = other k
or_literal c other (Some l) k = finish_literal c l k

module _ {X I : Type 0} (texts : TextOf X) (source : TokensOf I (Result (Token X) Fault)) where
  -- a literal was read, from a state where it is due
  pub record GivesLiteral (from : LiteralContext → State) (a b : Reader X I) (l : RustLiteral) : Type 0 where
    pub ready : IsReady source.can_next source.remaining b
    pub later : left_in source.remaining b < left_in source.remaining a
    pub leads : (c : LiteralContext) → Onward texts.text source.next_gives a b (at (from c))
        (at (literal_read c (literal_of l)))

  -- a literal was read, from a state where it is due, or the refusal is the machine's
  abbrev pub ReadsLiteralFrom : (LiteralContext → State) → Reader X I → Reader X I → Result RustLiteral Fault → Type 0
  ReadsLiteralFrom from a b r =
      MatchResult r (λ l. GivesLiteral from a b l)
      (λ e. Blames e (λ o. (c : LiteralContext) → Came texts.text source.next_gives a (at (from c)) o))

  -- a literal was read, or the refusal is the machine's
  abbrev pub ReadsLiteral : Reader X I → Reader X I → Result RustLiteral Fault → Type 0
  ReadsLiteral a b r = ReadsLiteralFrom (λ c. literal_due c) a b r

  -- the number of a literal was read, after a `-` that begins at this byte, or the refusal is the machine's
  abbrev pub ReadsNegative : Reader X I → Reader X I → ℕ → Result RustLiteral Fault → Type 0
  ReadsNegative a b start r = (t : Lexeme) → t.place.start ≡ start → ReadsLiteralFrom (λ c. minus_read c (t ∷ [])) a b r

  -- an optional default was read
  pub record GivesDefault (a b : Reader X I) (l : Option RustLiteral) : Type 0 where
    pub ready : IsReady source.can_next source.remaining b
    pub later : left_in source.remaining b ≤ left_in source.remaining a
    pub leads : (st : State) (c : LiteralContext) (other : TokenKind → Transition)
        → StandsBefore texts.text a st (opens_literal c other)
        → LeadsTo texts.text source.next_gives a b st (or_literal c other (option_literal_of l))

  -- an optional default was read, or the refusal is the machine's
  abbrev pub ReadsDefault : Reader X I → Reader X I → Result (Option RustLiteral) Fault → Type 0
  ReadsDefault a b r = MatchResult r (λ l. GivesDefault a b l)
      (λ e. Blames e (λ o. (st : State) (c : LiteralContext) (other : TokenKind → Transition)
      → StandsBefore texts.text a st (opens_literal c other) → Came texts.text source.next_gives a (at st) o))
