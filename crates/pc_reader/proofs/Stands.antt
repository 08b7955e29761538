-- States before the token ahead.
use Rattle.std.specs.declared.convert.AsStr.{Ghosts as TextOf}
use Rattle.std.specs.declared.iter.Iterator.{Ghosts as TokensOf}
use Rattle.std.proofs.Common.{◌≡◌, ℕ, Bool, false, List, Option, Some, Result, ap, ◌∙◌}
use Rattle.pc_source.specs.declared.fault.Fault.{Fault}
use Rattle.pc_token.specs.declared.token.Token.{Token}
use Rattle.pc_token.specs.declared.token.TokenKind.{TokenKind}
use Rattle.pc_token.specs.Lexeme.{Lexeme}
use Rattle.pc_grammar.specs.Machine.{at, transition, stop_at, short}
use Rattle.pc_grammar.specs.Machine.Kinds.{same_kind}
use Rattle.pc_grammar.specs.Machine.States.{State, Transition, stuck, go, on}
use Rattle.pc_reader.specs.declared.reader.Reader.{Reader}
use Rattle.pc_reader.specs.Reading.{lexeme, Onward, Takes, NeedsKind}
use Rattle.pc_reader.specs.Internal.StatesAhead.{StandsBefore, LeadsTo}
use Rattle.pc_reader.proofs.SameKind.{is_same}
use Rattle.pc_reader.proofs.Steps.{step_to}

module _ {X I : Type 0} {text : X → List ℕ} {a : Reader X I} where
  -- a state whose turns are known
  pub stands_at : (st : State) (next : TokenKind → Transition) → stop_at st ≡ short
      → ((t : Lexeme) (k : TokenKind) → transition st t k ≡ next k) → StandsBefore text a st next
  stands_at st next u f = record { unfinished = u; goes = λ t h. f (lexeme text t) t.kind }

  -- the same, told otherwise at the token ahead
  pub stands_so : {st : State} {next : TokenKind → Transition} (next' : TokenKind → Transition)
      → StandsBefore text a st next
      → ((t : Token X) → a.ahead ≡ Some t → next t.kind ≡ next' t.kind) → StandsBefore text a st next'
  stands_so next' x f = record { unfinished = x.unfinished; goes = λ t h. x.goes t h ∙ f t h }

  -- where a token of one kind alone goes on
  pub awaits : (kind : TokenKind) (s : State) {st : State} {next : TokenKind → Transition} → StandsBefore text a st next
      → ((t : Token X) → a.ahead ≡ Some t → next t.kind ≡ on (same_kind t.kind kind) s stuck) → NeedsKind text kind st a
  awaits kind s x f = record {
    unfinished = x.unfinished;
    stuck_at = λ t h e. x.goes t h ∙ f t h
        ∙ ap (λ z. on z s stuck) e;
  }

-- a choice that is not taken
pub passes : (b : Bool) (s : State) (other : Transition) → b ≡ false → on b s other ≡ other
passes b s other e = ap (λ z. on z s other) e

-- a choice that is taken
pub takes : (kind k : TokenKind) (s : State) (other : Transition) → k ≡ kind → on (same_kind k kind) s other ≡ go s
takes kind k s other e = ap (λ z. on z s other) (is_same k kind e)

module _ {X I : Type 0} {text : X → List ℕ} {steps : I → Option (Result (Token X) Fault) → I → Type 0} where
  pub stays : {a : Reader X I} {st : State} {next : TokenKind → Transition} → StandsBefore text a st next
      → LeadsTo text steps a a st next
  stays {st = st} x = record { behind = st; stands = x; leads = λ o y. y }

  pub reached_so : {a b : Reader X I} {st : State} {next : TokenKind → Transition} (next' : TokenKind → Transition)
      → LeadsTo text steps a b st next → ((t : Token X) → b.ahead ≡ Some t → next t.kind ≡ next' t.kind)
      → LeadsTo text steps a b st next'
  reached_so next' x f = record { behind = x.behind; stands = stands_so next' x.stands f; leads = x.leads }

  -- further on from a state that was reached
  pub reached_on : {a b d : Reader X I} {st : State} {next next' : TokenKind → Transition}
      (x : LeadsTo text steps a b st next) → LeadsTo text steps b d x.behind next' → LeadsTo text steps a d st next'
  reached_on x y = record { behind = y.behind; stands = y.stands; leads = λ o z. x.leads o (y.leads o z) }

  -- after what leads there
  pub reached_after : {a b d : Reader X I} {st st' : State} {next : TokenKind → Transition}
      → Onward text steps a b (at st) (at st') → LeadsTo text steps b d st' next → LeadsTo text steps a d st next
  reached_after f y = record { behind = y.behind; stands = y.stands; leads = λ o z. f o (y.leads o z) }

module _ {X I : Type 0} {texts : TextOf X} {source : TokensOf I (Result (Token X) Fault)} where
  -- the token ahead was taken
  pub goes_to : {a b : Reader X I} {t : Token X} {st : State} {next : TokenKind → Transition} (s : State)
      → StandsBefore texts.text a st next → Takes texts source a b t → next t.kind ≡ go s
      → Onward texts.text source.next_gives a b (at st) (at s)
  goes_to {t = t} {st = st} s x h e = step_to st s h (x.goes t h.here ∙ e)

  pub reaches_to : {a b d : Reader X I} {t : Token X} {st : State} {next : TokenKind → Transition} (s : State)
      (x : LeadsTo texts.text source.next_gives a b st next) → Takes texts source b d t → next t.kind ≡ go s
      → Onward texts.text source.next_gives a d (at st) (at s)
  reaches_to s x h e o y = x.leads o (goes_to s x.stands h e o y)
