-- Steps of the machine at a token that was taken.
use Rattle.std.specs.declared.convert.AsStr.{Ghosts as TextOf}
use Rattle.std.specs.declared.iter.Iterator.{Ghosts as TokensOf}
use Rattle.std.proofs.Common.{◌≡◌, ℕ, ◌≤◌, ◌<◌, true, false, List, Option, Some, None, Result, Ok, Err, MatchResult}
use Rattle.std.proofs.Common.{if◌then◌else◌, refl, arith, ap, sym, ◌∙◌, subst}
use Rattle.pc_source.specs.declared.fault.Fault.{Fault}
use Rattle.pc_source.specs.declared.fault.Fault.TheVariants as fault
use Rattle.pc_token.specs.declared.token.Token.{Token}
use Rattle.pc_token.specs.declared.token.TokenKind.{TokenKind}
use Rattle.pc_token.specs.Lexeme.{Lexeme}
use Rattle.pc_tree.specs.declared.tree.BinaryOperator.TheVariants.{Add, Sub, Mul, FloorDiv, Mod}
use Rattle.pc_tree.specs.Tree.{Module}
use Rattle.pc_grammar.specs.Machine.{at, short, stop_at, transition, arrive}
use Rattle.pc_grammar.specs.Machine.Kinds.{same_kind, arithmetic, comparison, both, either, Link, linking, denying}
use Rattle.pc_grammar.specs.Machine.Kinds.{identifying, Follow, link, follow_of}
use Rattle.pc_grammar.specs.Machine.States.{Part, minus, denial, Stack, whole, joining, applying, grouping, listing}
use Rattle.pc_grammar.specs.Machine.States.{indexing, naming, keying, valuing, State, stuck, go, on}
use Rattle.pc_grammar.specs.Machine.Expressions.{own_of, own_of_link, left_of_link}
use Rattle.pc_grammar.specs.Machine.Expressions.{needed_level}
use Rattle.pc_grammar.specs.Machine.Expressions.{reduce}
use Rattle.pc_grammar.specs.Machine.Expressions.{linked, have_turn}
use Rattle.pc_reader.specs.declared.reader.Reader.{Reader}
use Rattle.pc_reader.specs.Internal.Expressions.{HasLink}
use Rattle.pc_reader.specs.Reading.{kind_ahead, IsAhead, Blames, answer_for, lexeme, came, Came, Onward, Takes, Skips}
use Rattle.pc_reader.specs.Reading.{NeedsKind}
use Rattle.pc_reader.proofs.Frames.{is_le, not_le, tight, right_is, link_low, own_left}
use Rattle.pc_reader.proofs.SameKind.{same_is}
use Rattle.pc_reader.proofs.Streams.{blame_memory, run_end, same_step, at_end}

-- the token that was taken leads from one state to another
pub step_to : {X I : Type 0} {texts : TextOf X} {source : TokensOf I (Result (Token X) Fault)} {a b : Reader X I}
    {t : Token X}
    → (st st' : State) → Takes texts source a b t → transition st (lexeme texts.text t) t.kind ≡ go st'
    → Onward texts.text source.next_gives a b (at st) (at st')
step_to {texts = texts} {source = source} {a = a} {b = b} {t = t} st st' h e o x =
    h.leads (at st) o (subst (λ z. Came texts.text source.next_gives b z o)
    (sym (ap (λ z. arrive z (lexeme texts.text t)) e)) x)

-- the token that was passed over is the one that was ahead
pub skipped : {X I : Type 0} {texts : TextOf X} {source : TokensOf I (Result (Token X) Fault)} {a b : Reader X I}
    {t : Token X}
    → a.ahead ≡ Some t → Skips texts source a b → Takes texts source a b t
skipped {X = X} {texts = texts} {source = source} {a = a} {b = b} h k =
    subst (λ z. Takes texts source a b z) (same (sym k.takes.here ∙ h)) k.takes
  where
    same : {v w : Token X} → Some v ≡ Some w → v ≡ w
    same q = cc

-- two states that go the same way at the token ahead
pub alike : {X I : Type 0} (text : X → List ℕ) (steps : I → Option (Result (Token X) Fault) → I → Type 0)
    (a : Reader X I) (st st' : State) → stop_at st ≡ short → stop_at st' ≡ short
    → ((t : Token X) → a.ahead ≡ Some t → transition st (lexeme text t) t.kind ≡ transition st' (lexeme text t) t.kind)
    → Onward text steps a a (at st) (at st')
alike {X = X} text steps a st st' u u' f o x = by_ahead a.ahead refl
  where
    by_ahead : (v : Option (Token X)) → a.ahead ≡ v → Came text steps a (at st) o
    by_ahead None q = at_end text steps a (at st) o q (ap (answer_for a.end) (u ∙ sym u')
        ∙ sym (run_end text a.end (at st')) ∙ subst (λ z. came text steps z a.tokens a.end (at st') o) q x)
    by_ahead (Some t) q = same_step text steps a (at st) (at st') t q (ap (λ z. arrive z (lexeme text t)) (f t q)) o x

-- where a state waits for one kind of token
pub needs : {X I : Type 0} {text : X → List ℕ} {kind : TokenKind} {st : State} {a : Reader X I} (next : Lexeme → State)
    → stop_at st ≡ short
    → ((t : Lexeme) (k : TokenKind) → transition st t k ≡ on (same_kind k kind) (next t) stuck)
    → NeedsKind text kind st a
needs {text = text} {kind = kind} next u f = record {
  unfinished = u;
  stuck_at = λ t h e. f (lexeme text t) t.kind
      ∙ ap (λ z. on z (next (lexeme text t)) stuck) e;
}

-- the token of that kind leads there
pub meets : (kind k : TokenKind) (next : State) → k ≡ kind → on (same_kind k kind) next stuck ≡ go next
meets kind k next e = ap (λ z. on z next stuck) (Rattle.pc_reader.proofs.SameKind.is_same k kind e)

reduce_none : (l : Link) (p : Part) (s : Stack) → needed_level s ≤ own_of_link l → reduce (left_of_link l) p s ≡ (p, s)
reduce_none l p (joining op x o s) h = ap (λ z. if z then reduce (left_of_link l)
    (Rattle.pc_grammar.specs.Machine.Expressions.joined op x o p) s else (p, joining op x o s))
    (not_le (left_of_link l) (own_of op) (let q = right_is op in let w = own_left l in omega arith))
reduce_none l p (applying minus u s) h = absurd (let q = link_low l in omega arith)
reduce_none l p (applying denial u s) h = ap (λ z. if z then reduce (left_of_link l)
    (Rattle.pc_grammar.specs.Machine.Expressions.applied denial u p) s else (p, applying denial u s))
    (not_le (left_of_link l) 2 (over_two l h))
  where
    over_two : (l : Link) → 2 ≤ own_of_link l → 2 < left_of_link l
    over_two (linking (arithmetic Add)) g = omega arith
    over_two (linking (arithmetic Sub)) g = omega arith
    over_two (linking (arithmetic Mul)) g = omega arith
    over_two (linking (arithmetic FloorDiv)) g = omega arith
    over_two (linking (arithmetic Mod)) g = omega arith
    over_two (linking (comparison o)) g = omega arith
    over_two (linking both) g = absurd (omega arith)
    over_two (linking either) g = absurd (omega arith)
    over_two denying g = omega arith
    over_two identifying g = omega arith
reduce_none l p (whole c) h = refl
reduce_none l p (grouping t s) h = refl
reduce_none l p (listing h xs ts s) g = refl
reduce_none l p (indexing e ts s) h = refl
reduce_none l p (naming e xs ks n ts s) h = refl
reduce_none l p (keying es ts s) h = refl
reduce_none l p (valuing es k ts s) h = refl

-- an operator that goes on with the operand
pub link_turn : (l : Link) (level : ℕ) (p : Part) (s : Stack) (t : Lexeme) (f : Follow) → f ≡ link l
    → left_of_link l ≤ level → needed_level s ≤ own_of_link l → have_turn level p s t f ≡ go (linked l t p s)
link_turn l level p s t f e h r = ap (λ z. have_turn level p s t z) e ∙ tight (left_of_link l) level _ h
    ∙ ap (λ z. Rattle.pc_grammar.specs.Machine.Expressions.after_link l t z) (reduce_none l p s r)
    ∙ ap (λ z. on z (linked l t p s) stuck) (is_le (needed_level s) (own_of_link l) r)

-- one token is ahead
pub same_place : {X : Type 0} {a : Option (Token X)} {t u : Token X} → a ≡ Some t → a ≡ Some u → t.place ≡ u.place
same_place {X = X} {t = t} {u = u} e f = ap (λ (z : Token X). z.place) (same (sym e ∙ f))
  where
    same : {v w : Token X} → Some v ≡ Some w → v ≡ w
    same q = cc

-- no token is ahead where there is none
pub nothing_ahead : {X : Type 0} {a : Option (Token X)} {t : Token X} → a ≡ None → a ≡ Some t → ⊥
nothing_ahead h e = cc

-- facts about the token that was taken, from those about the token ahead
pub kind_seen : {X : Type 0} {a : Option (Token X)} {t : Token X} (kind : TokenKind) → IsAhead kind a ≡ true
    → a ≡ Some t → t.kind ≡ kind
kind_seen {t = t} kind e h = same_is t.kind kind (sym (ap (IsAhead kind) h) ∙ e)

pub not_seen : {X : Type 0} {a : Option (Token X)} {t : Token X} (kind : TokenKind) → IsAhead kind a ≡ false
    → a ≡ Some t → same_kind t.kind kind ≡ false
not_seen {t = t} kind e h = sym (ap (IsAhead kind) h) ∙ e

-- a call that wants memory or answers what is wanted
pub on_result : {A : Type 0} (r : Result A Fault) (P Q : A → Type 0) (R : Result Module Fault → Type 0)
    → ((x : A) → P x → Q x) → MatchResult r P (λ e. e ≡ fault.OutOfMemory) → MatchResult r Q (λ e. Blames e R)
on_result (Ok x) P Q R f h = f x h
on_result (Err e) P Q R f h = blame_memory h

pub link_ahead : {X : Type 0} (need level : ℕ) (l : Link) (a : Option (Token X)) (k : TokenKind) → kind_ahead a ≡ Some k
    → follow_of k ≡ link l → need ≤ own_of_link l → left_of_link l ≤ level → HasLink need level l a
link_ahead need level l None k e f b g = cc
link_ahead need level l (Some t) k e f b g = record {
  token = t;
  here = refl;
  is = ap follow_of (kind_of e)
      ∙ f;
  binds = b;
  goes = g;
}
  where
    kind_of : Some t.kind ≡ Some k → t.kind ≡ k
    kind_of q = cc
