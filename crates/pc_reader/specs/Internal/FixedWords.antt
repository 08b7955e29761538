-- Results of the functions that read fixed tokens.
use Rattle.std.specs.declared.convert.AsStr.{Ghosts as TextOf}
use Rattle.std.specs.declared.iter.Iterator.{Ghosts as TokensOf}
use Rattle.std.specs.Prelude.{ℕ, ◌≡◌, ◌≤◌, Bool, true, false, List, [], ◌∷◌, Option, Some, None, Result, MatchResult}
use Rattle.pc_source.specs.declared.fault.Fault.{Fault}
use Rattle.pc_token.specs.declared.token.Token.{Token}
use Rattle.pc_token.specs.declared.token.TokenKind.{TokenKind}
use Rattle.pc_grammar.specs.Machine.{at, transition, stop_at, short}
use Rattle.pc_grammar.specs.Machine.Kinds.{Fixed, a_kind, a_form, is_fixed}
use Rattle.pc_grammar.specs.Machine.Lines.{due}
use Rattle.pc_grammar.specs.Machine.States.{State, stuck}
use Rattle.pc_reader.specs.declared.reader.Reader.{Reader}
use Rattle.pc_reader.specs.Reading.{Blames, Came, Onward, IsReady, lexeme, left_in, Takes}

-- whether a name of this form is ahead
abbrev pub IsFormAhead : {X : Type 0} → (X → List ℕ) → List ℕ → Option (Token X) → Bool
IsFormAhead text form None = false
IsFormAhead text form (Some t) = is_fixed (a_form form) (lexeme text t) t.kind

-- only a name of this form fits the state
pub record NeedsForm {X I : Type 0} (text : X → List ℕ) (form : List ℕ) (st : State) (a : Reader X I) : Type 0 where
  pub unfinished : stop_at st ≡ short
  pub stuck_at : (t : Token X) → a.ahead ≡ Some t → is_fixed (a_form form) (lexeme text t) t.kind ≡ false
      → transition st (lexeme text t) t.kind ≡ stuck

-- fixed tokens of these kinds, in order
abbrev pub kinds_of : List TokenKind → List Fixed
kinds_of [] = []
kinds_of (k ∷ ks) = a_kind k ∷ kinds_of ks

module _ {X I : Type 0} (texts : TextOf X) (source : TokensOf I (Result (Token X) Fault)) where
  -- a name of this form was taken
  pub record TakesForm (form : List ℕ) (a b : Reader X I) (t : Token X) : Type 0 where
    pub takes : Takes texts source a b t
    pub is : is_fixed (a_form form) (lexeme texts.text t) t.kind ≡ true

  -- a name of this form was taken, or the refusal is the machine's where only that name fits
  abbrev pub ReadsForm : List ℕ → Reader X I → Reader X I → Result (Token X) Fault → Type 0
  ReadsForm form a b r = MatchResult r (λ t. TakesForm form a b t)
      (λ e. Blames e (λ o. (st : State) → NeedsForm texts.text form st a → Came texts.text source.next_gives a (at st)
      o))

  -- these fixed tokens were read
  pub record GivesFixed (ws : List Fixed) (a b : Reader X I) : Type 0 where
    pub ready : IsReady source.can_next source.remaining b
    pub later : left_in source.remaining b ≤ left_in source.remaining a
    pub leads : (next : State) → Onward texts.text source.next_gives a b (at (due ws next)) (at next)

  -- these fixed tokens were read, or the refusal is the machine's
  abbrev pub ReadsFixed : {U : Type 0} → List Fixed → Reader X I → Reader X I → Result U Fault → Type 0
  ReadsFixed ws a b r = MatchResult r (λ _. GivesFixed ws a b)
      (λ e. Blames e (λ o. (next : State) → Came texts.text source.next_gives a (at (due ws next)) o))
