-- Fixed words, as the machine reads them.
use Rattle.std.specs.declared.convert.AsStr.{Ghosts as TextOf}
use Rattle.std.specs.declared.iter.Iterator.{Ghosts as TokensOf}
use Rattle.std.proofs.Common.{◌≡◌, ℕ, true, false, List, ◌∷◌, Option, Some, None, Result, Ok, Err, MatchResult, drop}
use Rattle.std.proofs.Common.{refl, ap, sym, ◌∙◌, subst}
use Rattle.pc_source.specs.declared.fault.Fault.{Fault}
use Rattle.pc_token.specs.declared.token.Token.{Token}
use Rattle.pc_token.specs.declared.token.TokenKind.{TokenKind}
use Rattle.pc_grammar.specs.Machine.{Reading, at, stop, short}
use Rattle.pc_grammar.specs.Machine.Kinds.{Fixed, a_kind, a_form, is_fixed}
use Rattle.pc_grammar.specs.Machine.Lines.{due}
use Rattle.pc_grammar.specs.Machine.States.{State, fixed, stuck, on}
use Rattle.pc_reader.specs.declared.reader.Reader.{Reader}
use Rattle.pc_reader.specs.Reading.{Blames, Came, lexeme, Onward, Takes, NeedsKind, Rejects}
use Rattle.pc_reader.specs.Internal.FixedWords.{kinds_of, IsFormAhead, NeedsForm, TakesForm, ReadsForm}
use Rattle.pc_reader.proofs.Steps.{step_to, needs, meets}
use Rattle.pc_reader.proofs.Streams.{blame}

pub form_seen : {X : Type 0} (text : X → List ℕ) (form : List ℕ) {o : Option (Token X)} {t : Token X}
    → IsFormAhead text form o ≡ true → o ≡ Some t → is_fixed (a_form form) (lexeme text t) t.kind ≡ true
form_seen text form e h = sym (ap (IsFormAhead text form) h) ∙ e

module _ {X I : Type 0} {text : X → List ℕ} {a : Reader X I} where
  pub rejects_form : {form : List ℕ} {st : State} → IsFormAhead text form a.ahead ≡ false → NeedsForm text form st a
      → Rejects text st a
  rejects_form {form = form} e n = record {
    unfinished = n.unfinished;
    stuck_at =
        λ t h. n.stuck_at t h (sym (ap (IsFormAhead text form) h) ∙ e);
  }

  pub form_due : (form : List ℕ) (ws : List Fixed) (next : State) → NeedsForm text form (fixed (a_form form) ws next) a
  form_due form ws next = record { unfinished = refl; stuck_at = λ t h e. ap (λ z. on z (due ws next) stuck) e }

  pub kind_due : (k : TokenKind) (ws : List Fixed) (next : State) → NeedsKind text k (fixed (a_kind k) ws next) a
  kind_due k ws next = needs (λ t. due ws next) refl (λ t i. refl)

module _ {X I : Type 0} {texts : TextOf X} {source : TokensOf I (Result (Token X) Fault)} {a b : Reader X I}
    {t : Token X} where
  pub form_read : {form : List ℕ} → TakesForm texts source form a b t → (ws : List Fixed) (next : State)
      → Onward texts.text source.next_gives a b (at (fixed (a_form form) ws next)) (at (due ws next))
  form_read {form = form} f ws next = step_to (fixed (a_form form) ws next) (due ws next) f.takes
      (ap (λ z. on z (due ws next) stuck) f.is)

  pub kind_read : (k : TokenKind) → Takes texts source a b t → t.kind ≡ k → (ws : List Fixed) (next : State)
      → Onward texts.text source.next_gives a b (at (fixed (a_kind k) ws next)) (at (due ws next))
  kind_read k h e ws next = step_to (fixed (a_kind k) ws next) (due ws next) h (meets k t.kind (due ws next) e)

-- a name of this form is ahead, and is taken
pub takes_form : {X I : Type 0} (texts : TextOf X) (source : TokensOf I (Result (Token X) Fault)) (a b : Reader X I)
    (form : List ℕ) → IsFormAhead texts.text form a.ahead ≡ true
    → (r : Result (Token X) Fault)
    → MatchResult r (λ t. Takes texts source a b t) (λ e.
    Blames e (λ o. (z : Reading) → (a.ahead ≡ None → stop z ≡ short) → Came texts.text source.next_gives a z o))
    → ReadsForm texts source form a b r
takes_form texts source a b form seen (Ok t) x = record { takes = x; is = form_seen texts.text form seen x.here }
takes_form texts source a b form seen (Err e) x = blame (λ o w. λ st n. w (at st) (λ q. n.unfinished)) x

-- the next of the kinds that are left
pub next_due : {X I : Type 0} {text : X → List ℕ} {a : Reader X I} (ks : List TokenKind) (i : ℕ) (k : TokenKind)
    (rest : List TokenKind) (next : State) → drop i ks ≡ k ∷ rest → NeedsKind text k (due (kinds_of (drop i ks)) next) a
next_due {text = text} {a = a} ks i k rest next e = subst (λ z. NeedsKind text k (due (kinds_of z) next) a) (sym e)
    (kind_due k (kinds_of rest) next)
