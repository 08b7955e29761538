-- Steps of a reader over a stream.
use Rattle.std.proofs.Common.{◌≡◌, ℕ, List, [], ◌∷◌, Option, Some, None, Result, Ok, Err, MatchResult, IfOk, true, refl}
use Rattle.std.proofs.Common.{arith, ap, sym, ◌∙◌, subst}
use Rattle.pc_source.specs.declared.fault.Fault.{Fault}
use Rattle.pc_source.specs.declared.fault.Fault.TheVariants as fault
use Rattle.pc_token.specs.declared.token.Token.{Token}
use Rattle.pc_tree.specs.Tree.{Module}
use Rattle.pc_grammar.specs.Machine.{Reading, at, lost, step, stop, arrive}
use Rattle.pc_grammar.specs.Machine.States.{State}
use Rattle.pc_reader.specs.declared.reader.Reader.{Reader}
use Rattle.std.specs.Iterator.{Count, IsFinite}
use Rattle.pc_token.specs.declared.token.TokenKind.{TokenKind}
use Rattle.pc_reader.proofs.SameKind.{same_is}
use Rattle.pc_reader.specs.Reading.{IsAhead, answer_for, Blames, lexeme, run_items, ComesToAnswer, came, Came, Rejects}
use Rattle.pc_reader.specs.Reading.{misfit_at, ready, IsReady}

module _ {X : Type 0} (text : X → List ℕ) where
  pub run_token : (end : ℕ) (r : Reading) (t : Token X) (xs : List (Result (Token X) Fault))
      → run_items text end r (Ok t ∷ xs) ≡ run_items text t.place.end (step r (lexeme text t)) xs
  unfolding run_items
  run_token end r t xs = refl

  pub run_fault : (end : ℕ) (r : Reading) (e : Fault) (xs : List (Result (Token X) Fault))
      → run_items text end r (Err e ∷ xs) ≡ Err e
  unfolding run_items
  run_fault end r e xs = refl

  pub run_end : (end : ℕ) (r : Reading) → run_items text end r [] ≡ answer_for end (stop r)
  unfolding run_items
  run_end end r = refl

-- a blamed fault is blamed for whatever follows
pub blame : {e : Fault} {P Q : Result Module Fault → Type 0} → ((o : Result Module Fault) → P o → Q o) → Blames e P
    → Blames e Q
blame {e} f h = record { said = λ r q. f (Err e) (h.said r q) }

pub blame_any : {e : Fault} {P : Result Module Fault → Type 0} → P (Err e) → Blames e P
blame_any h = record { said = λ r q. h }

-- of a failed allocation nothing is said
pub blame_memory : {e : Fault} {P : Result Module Fault → Type 0} → e ≡ fault.OutOfMemory → Blames e P
blame_memory m = record { said = λ r q. absurd (cc) }

-- a fault that is passed on
pub passed : {A : Type 0} (r : Result A Fault) (e e' : Fault) (P : Result Module Fault → Type 0) (Q : A → Type 0)
    → r ≡ Err e' → e ≡ e' → Blames e P → MatchResult r Q (λ x. Blames x P)
passed r e e' P Q q h b = rw q (subst (λ x. Blames x P) h b)

byte_of : Fault → ℕ
byte_of (fault.Refused r) = r.byte
byte_of fault.OutOfMemory = 0

byte_in : Result Module Fault → ℕ
byte_in (Ok m) = 0
byte_in (Err e) = byte_of e

two_bytes : misfit_at 0 ≡ misfit_at 1 → ⊥
unfolding byte_in byte_of
two_bytes e = omega (arith, ap byte_in e)

module _ {X I : Type 0} (text : X → List ℕ) (steps : I → Option (Result (Token X) Fault) → I → Type 0) where
  -- one more token came, and is ahead now
  pub more : (r : Reading) (t u : Token X) (end : ℕ) (it jt : I) (o : Result Module Fault) → steps it (Some (Ok u)) jt
      → came text steps (Some u) jt t.place.end (step r (lexeme text t)) o → came text steps (Some t) it end r o
  more r t u end it jt o s (xs, cm, e) = (Ok u ∷ xs, (jt, s, cm), run_token text end r t (Ok u ∷ xs) ∙ e)

  -- nothing more came
  pub none : (r : Reading) (t : Token X) (end : ℕ) (it jt : I) (o : Result Module Fault) → steps it None jt
      → came text steps None jt t.place.end (step r (lexeme text t)) o → came text steps (Some t) it end r o
  none r t end it jt o s e = ([], (jt, s), run_token text end r t [] ∙ e)

  -- a fault came
  pub fault_after : (r : Reading) (t : Token X) (end : ℕ) (e : Fault) (it jt : I) → steps it (Some (Err e)) jt
      → came text steps (Some t) it end r (Err e)
  fault_after r t end e it jt s = (
    Err e ∷ [],
    (refl, jt, s),
    run_token text end r t (Err e ∷ [])
        ∙ run_fault text t.place.end _ e [],
  )

  pub fault_first : (r : Reading) (e : Fault) (it jt : I) → steps it (Some (Err e)) jt
      → ComesToAnswer text steps it 0 r (Err e)
  fault_first r e it jt s = (Err e ∷ [], (refl, jt, s), run_fault text 0 r e [])

  -- nothing is ahead
  pub at_end : (a : Reader X I) (r : Reading) (o : Result Module Fault) → a.ahead ≡ None → answer_for a.end (stop r) ≡ o
      → Came text steps a r o
  at_end a r o h e = subst (λ x. came text steps x a.tokens a.end r o) (sym h) (run_end text a.end r ∙ e)

  -- the token ahead leads two readings to the same
  pub same_step : (a : Reader X I) (r r' : Reading) (t : Token X) → a.ahead ≡ Some t
      → step r (lexeme text t) ≡ step r' (lexeme text t)
      → (o : Result Module Fault) → Came text steps a r' o → Came text steps a r o
  same_step a r r' t h e o x = subst (λ z. came text steps z a.tokens a.end r o) (sym h)
      (over (subst (λ z. came text steps z a.tokens a.end r' o) h x))
    where
      over : came text steps (Some t) a.tokens a.end r' o → came text steps (Some t) a.tokens a.end r o
      over (xs, cm, q) = (
        xs,
        cm,
        run_token text a.end r t xs ∙ ap (λ z. run_items text t.place.end z xs) e
            ∙ sym (run_token text a.end r' t xs) ∙ q,
      )

  -- nothing that goes on from a state is ahead
  pub rejected_end : (st : State) (a : Reader X I) → Rejects text st a → a.ahead ≡ None
      → Came text steps a (at st) (misfit_at a.end)
  rejected_end st a j h = at_end a (at st) (misfit_at a.end) h (ap (answer_for a.end) j.unfinished)

  pub rejected : (st : State) (a : Reader X I) (t : Token X) → Rejects text st a → a.ahead ≡ Some t
      → Came text steps a (lost t.place.start) (misfit_at t.place.start)
      → Came text steps a (at st) (misfit_at t.place.start)
  rejected st a t j h x = same_step a (at st) (lost t.place.start) t h
      (ap (λ z. arrive z (lexeme text t)) (j.stuck_at t h)) _ x

  -- whatever is lost stays lost
  pub rejected_by : (st : State) (a : Reader X I) (o : Result Module Fault) → Rejects text st a → (t : Token X)
      → a.ahead ≡ Some t
      → ((byte : ℕ) → Came text steps a (lost byte) o) → Came text steps a (at st) o
  rejected_by st a o j t h x = same_step a (at st) (lost t.place.start) t h
      (ap (λ z. arrive z (lexeme text t)) (j.stuck_at t h)) o (x _)

  pub rejected_late : (st : State) (a : Reader X I) (o : Result Module Fault) → Rejects text st a
      → ((byte : ℕ) → Came text steps a (lost byte) o) → Came text steps a (at st) o
  rejected_late st a o j x = by_ahead a.ahead refl
    where
      by_ahead : (v : Option (Token X)) → a.ahead ≡ v → Came text steps a (at st) o
      by_ahead None q =
          let lost_at : (b : ℕ) → o ≡ misfit_at b = λ b. sym (subst (λ z. came text steps z a.tokens a.end (lost b) o) q
          (x b)) ∙ run_end text a.end (lost b) in
          absurd (two_bytes (sym (lost_at 0) ∙ lost_at 1))
      by_ahead (Some t) q = rejected_by st a o j t q x

  -- with a token ahead
  pub at_token : (a : Reader X I) (r : Reading) (o : Result Module Fault) (t : Token X) → a.ahead ≡ Some t
      → came text steps (Some t) a.tokens a.end r o → Came text steps a r o
  at_token a r o t h x = subst (λ z. came text steps z a.tokens a.end r o) (sym h) x

module _ {X I : Type 0} (can : I → Type 0) (left : I → Count) where
  pub ready_ahead : (a : Reader X I) (t : Token X) → a.ahead ≡ Some t → IsReady can left a → can a.tokens
      × IsFinite (left a.tokens)
  ready_ahead a t h d = subst (λ z. ready can left z a.tokens) h d

-- the token that was taken is of the kind that was ahead
pub taken_kind : {X I : Type 0} (a : Reader X I) (kind : TokenKind) (r : Result (Token X) Fault) (P : Token X → Type 0)
    (Q : Fault → Type 0) → ((t : Token X) → P t → a.ahead ≡ Some t) → IsAhead kind a.ahead ≡ true
    → MatchResult r P Q → IfOk r (λ t. t.kind ≡ kind)
taken_kind a kind (Ok t) P Q f e h = same_is t.kind kind (sym (ap (IsAhead kind) (f t h)) ∙ e)
taken_kind a kind (Err x) P Q f e h = tt
