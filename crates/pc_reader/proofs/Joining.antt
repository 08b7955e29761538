-- An operator with its operands, and signs with theirs, before the token ahead.
use Rattle.std.proofs.Common.{◌≡◌, ℕ, ◌≤◌, ◌<◌, ◌⊎◌, inl, inr, List, Option, Some, None, Result, refl, arith, ap, sym}
use Rattle.std.proofs.Common.{◌∙◌, subst}
use Rattle.pc_source.specs.declared.fault.Fault.{Fault}
use Rattle.pc_token.specs.declared.token.Token.{Token}
use Rattle.pc_token.specs.Lexeme.{Lexeme}
use Rattle.pc_grammar.specs.Machine.{at}
use Rattle.pc_grammar.specs.Machine.Kinds.{Infix, Link, Follow, link, a_dot, calls, indexes, ends, follow_of}
use Rattle.pc_grammar.specs.Machine.States.{Part, Prefix, Stack, joining, have}
use Rattle.pc_grammar.specs.Machine.Expressions.{own_of, right_of, own_of_link, left_of_link, prefix_level, joined}
use Rattle.pc_reader.specs.declared.reader.Reader.{Reader}
use Rattle.pc_reader.specs.Internal.Operands.{signs_on, applied_all}
use Rattle.pc_reader.specs.Reading.{lexeme, Onward}
use Rattle.pc_reader.specs.Internal.Expressions.{NextIs, Over, Undotted, HasLink, wrapped_level}
use Rattle.pc_reader.proofs.Frames.{join_turn, link_low}
use Rattle.pc_reader.proofs.Signs.{signs_turn}
use Rattle.pc_reader.proofs.Steps.{alike}

pub has_link : {X : Type 0} {need level : ℕ} {l : Link} {a : Option (Token X)} {u : Token X} → HasLink need level l a
    → a ≡ Some u → follow_of u.kind ≡ link l
has_link {X = X} {u = u} h e = ap (λ (z : Token X). follow_of z.kind) (same (sym e ∙ h.here)) ∙ h.is
  where
    same : {v w : Token X} → Some v ≡ Some w → v ≡ w
    same q = cc

pub next : {X : Type 0} (P : Follow → Type 0) (a : Option (Token X)) (t : Token X) → NextIs P a → a ≡ Some t
    → P (follow_of t.kind)
next P a t h e = subst (λ z. NextIs P z) e h

module _ {X I : Type 0} (text : X → List ℕ) (steps : I → Option (Result (Token X) Fault) → I → Type 0) where
  -- before what does not go on with the right operand, the operator and both operands are one
  pub joins : (a : Reader X I) (op : Infix) (l : Part) (o : List Lexeme) (p : Part) (s : Stack) (level : ℕ)
      → right_of op ≤ level → NextIs (Over (right_of op) level) a.ahead → NextIs (Undotted level) a.ahead
      → Onward text steps a a (at (have level p (joining op l o s))) (at (have (own_of op) (joined op l o p) s))
  joins a op l o p s level h v u = alike text steps a (have level p (joining op l o s))
      (have (own_of op) (joined op l o p) s) refl refl
      (λ t e. join_turn op l o p s level (lexeme text t) (follow_of t.kind) h
      (next (Over (right_of op) level) a.ahead t v e) (next (Undotted level) a.ahead t u e))

  -- the same of signs and their operand
  pub signs_join : (a : Reader X I) (x : Prefix) (ts : List Lexeme) (p : Part) (s : Stack) (level : ℕ)
      → prefix_level x ≤ level
      → ((t : Token X) → a.ahead ≡ Some t → (k : Link) → follow_of t.kind ≡ link k → left_of_link k ≤ level
      → own_of_link k < prefix_level x)
      → NextIs (Undotted level) a.ahead → NextIs (Undotted (prefix_level x)) a.ahead
      → Onward text steps a a (at (have level p (signs_on x ts s)))
      (at (have (wrapped_level x ts level) (applied_all x ts p) s))
  signs_join a x ts p s level h v u y = alike text steps a (have level p (signs_on x ts s))
      (have (wrapped_level x ts level) (applied_all x ts p) s) refl refl
      (λ t e. signs_turn x ts p s level (lexeme text t) (follow_of t.kind) h (v t e)
      (next (Undotted level) a.ahead t u e) (next (Undotted (prefix_level x)) a.ahead t y e))

-- a token that does not continue an operand of a negation does not continue the negation's own operand more tightly
pub over_sign : {X : Type 0} (a : Option (Token X)) (level : ℕ) → NextIs (Over 2 level) a → (t : Token X) → a ≡ Some t
    → (k : Link) → follow_of t.kind ≡ link k → left_of_link k ≤ level → own_of_link k < 2
over_sign a level h t e k f g = by_over (subst (Over 2 level) f (next (Over 2 level) a t h e))
  where
    by_over : (own_of_link k < 2) ⊎ (level < left_of_link k) → own_of_link k < 2
    by_over (inl q) = q
    by_over (inr q) = absurd (omega arith)

pub over_any : (k : Link) → own_of_link k < 6
over_any k = omega (arith, link_low k)

untight : (level low : ℕ) (f : Follow) → low < 7 → Undotted level f → Undotted low f
untight level low (link l) h u = tt
untight level low a_dot h u = h
untight level low calls h u = h
untight level low indexes h u = h
untight level low (ends e) h u = tt

pub lower : {X : Type 0} (a : Option (Token X)) (level low : ℕ) → low < 7 → NextIs (Undotted level) a
    → NextIs (Undotted low) a
lower None level low h u = tt
lower (Some t) level low h u = untight level low (follow_of t.kind) h u

-- below the level of dots and brackets none goes on
pub low_undotted : {X : Type 0} (a : Option (Token X)) (level : ℕ) → level < 7 → NextIs (Undotted level) a
low_undotted None level h = tt
low_undotted (Some t) level h = every (follow_of t.kind)
  where
    every : (f : Follow) → Undotted level f
    every (link l) = tt
    every a_dot = h
    every calls = h
    every indexes = h
    every (ends e) = tt
