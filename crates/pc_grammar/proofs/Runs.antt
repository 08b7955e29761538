-- Equations of the machine.
use Rattle.std.proofs.Common.{◌≡◌, ℕ, ◌+◌, ◌≤◌, nat_le, true, List, [], ◌∷◌, refl, ap, sym, ◌∙◌, arith, le-leb}
use Rattle.std.proofs.Common.{if◌then◌else◌}
use Rattle.pc_token.specs.declared.token.TokenKind.{TokenKind}
use Rattle.pc_token.specs.Lexeme.{Lexeme}
use Rattle.pc_tree.specs.declared.tree.BinaryOperator.{BinaryOperator}
use Rattle.pc_tree.specs.declared.tree.BinaryOperator.TheVariants.{Add, Sub, Mul, FloorDiv, Mod}
use Rattle.pc_grammar.specs.Grammar.Expressions.{level_of}
use Rattle.pc_grammar.specs.Machine.Kinds.{Infix, arithmetic, comparison, both, either, Follow, link, a_dot, calls}
use Rattle.pc_grammar.specs.Machine.Kinds.{indexes, ends, follow_of}
use Rattle.pc_grammar.specs.Machine.States.{Part, Prefix, minus, denial, Stack, joining, applying, State, have, Transition}
use Rattle.pc_grammar.specs.Machine.States.{stuck, go}
use Rattle.pc_grammar.specs.Machine.Expressions.{own_of, right_of, left_of_link, prefix_level, follow_tightness, Stops}
use Rattle.pc_grammar.specs.Machine.Expressions.{joined, applied, reduce, after_link, if_tight, have_turn, close}
use Rattle.pc_grammar.specs.Machine.{transition, at, lost, arrive, refuses, stop_at, read_tokens}

pub run_go : (s next : State) (t : Lexeme) (ts : List Lexeme) → transition s t t.kind ≡ go next
    → read_tokens (at s) (t ∷ ts) ≡ read_tokens (at next) ts
unfolding read_tokens
run_go s next t ts e = ap (λ (x : Transition). read_tokens (arrive x t) ts) e

pub run_stuck : (s : State) (t : Lexeme) (ts : List Lexeme) → transition s t t.kind ≡ stuck
    → read_tokens (at s) (t ∷ ts) ≡ read_tokens (lost t.place.start) ts
unfolding read_tokens
run_stuck s t ts e = ap (λ (x : Transition). read_tokens (arrive x t) ts) e

pub run_lost : (byte : ℕ) (ts : List Lexeme) → read_tokens (lost byte) ts ≡ refuses byte
unfolding read_tokens
run_lost byte [] = refl
run_lost byte (t ∷ ts) = run_lost byte ts

pub run_none : (s : State) → read_tokens (at s) [] ≡ stop_at s
unfolding read_tokens
run_none s = refl

-- where two states take a token alike
pub run_same : (s next : State) (t : Lexeme) (ts : List Lexeme) → transition s t t.kind ≡ transition next t t.kind
    → read_tokens (at s) (t ∷ ts) ≡ read_tokens (at next) (t ∷ ts)
unfolding read_tokens
run_same s next t ts e = ap (λ (x : Transition). read_tokens (arrive x t) ts) e

-- a token of a known kind
pub reads_kind : (s next : State) (t : Lexeme) (ts : List Lexeme) (k : TokenKind) → t.kind ≡ k → transition s t k ≡ go next
    → read_tokens (at s) (t ∷ ts) ≡ read_tokens (at next) ts
reads_kind s next t ts k tk e = run_go s next t ts (ap (transition s t) tk ∙ e)

pub le_true : (a b : ℕ) → a ≤ b → nat_le a b ≡ true
le_true a b h = le-leb a b h

level_small : (o : BinaryOperator) → level_of o ≤ 5
level_small Add = omega arith
level_small Sub = omega arith
level_small Mul = omega arith
level_small FloorDiv = omega arith
level_small Mod = omega arith

pub own_small : (op : Infix) → own_of op ≤ 5
own_small (arithmetic o) = level_small o
own_small (comparison o) = omega arith
own_small both = omega arith
own_small either = omega arith

pub own_right : (op : Infix) → own_of op ≤ right_of op
own_right (arithmetic o) = omega arith
own_right (comparison o) = omega arith
own_right both = omega arith
own_right either = omega arith

pub prefix_small : (x : Prefix) → prefix_level x ≤ 6
prefix_small minus = omega arith
prefix_small denial = omega arith

-- a test of levels that holds
pub tight : (low level : ℕ) (x : Transition) → low ≤ level → if_tight low level x ≡ x
tight low level x h = ap (λ b. if b then x else stuck) (le_true low level h)

-- ---- levels

level_turn : (a b : ℕ) (p : Part) (s : Stack) (t : Lexeme) (f : Follow) → follow_tightness f ≤ a + 1
    → follow_tightness f ≤ b + 1
    → have_turn a p s t f ≡ have_turn b p s t f
level_turn a b p s t (link l) ha hb = tight (left_of_link l) a _ (omega arith)
    ∙ sym (tight (left_of_link l) b _ (omega arith))
level_turn a b p s t a_dot ha hb = tight 7 a _ (omega arith) ∙ sym (tight 7 b _ (omega arith))
level_turn a b p s t calls ha hb = tight 7 a _ (omega arith) ∙ sym (tight 7 b _ (omega arith))
level_turn a b p s t indexes ha hb = tight 7 a _ (omega arith) ∙ sym (tight 7 b _ (omega arith))
level_turn a b p s t (ends e) ha hb = refl

-- Before what binds no tighter than either, the level does not matter.
pub have_level : (a b : ℕ) (p : Part) (s : Stack) (ts : List Lexeme) → Stops (a + 1) ts → Stops (b + 1) ts
    → read_tokens (at (have a p s)) ts ≡ read_tokens (at (have b p s)) ts
have_level a b p s [] ha hb = run_none _ ∙ sym (run_none _)
have_level a b p s (t ∷ ts) ha hb = run_same _ _ t ts (level_turn a b p s t (follow_of t.kind) ha hb)

-- ---- operators

reduce_join : (low : ℕ) (op : Infix) (l : Part) (o : List Lexeme) (p : Part) (s : Stack) → low ≤ own_of op
    → reduce low p (joining op l o s) ≡ reduce low (joined op l o p) s
reduce_join low op l o p s h = ap (λ b. if b then reduce low (joined op l o p) s else (p, joining op l o s))
    (le_true low (own_of op) h)

reduce_apply : (low : ℕ) (x : Prefix) (u : List Lexeme) (p : Part) (s : Stack) → low ≤ prefix_level x
    → reduce low p (applying x u s) ≡ reduce low (applied x u p) s
reduce_apply low x u p s h = ap (λ b. if b then reduce low (applied x u p) s else (p, applying x u s))
    (le_true low (prefix_level x) h)

join_turn : (op : Infix) (l : Part) (o : List Lexeme) (p : Part) (s : Stack) (t : Lexeme) (f : Follow)
    → follow_tightness f ≤ own_of op + 1
    → have_turn (right_of op) p (joining op l o s) t f ≡ have_turn (own_of op) (joined op l o p) s t f
join_turn op l o p s t (link k) h = let r : own_of op ≤ right_of op = own_right op in
    tight (left_of_link k) (right_of op) _ (omega arith)
    ∙ ap (after_link k t) (reduce_join (left_of_link k) op l o p s (omega arith))
    ∙ sym (tight (left_of_link k) (own_of op) _ (omega arith))
join_turn op l o p s t a_dot h = absurd (omega (arith, own_small op))
join_turn op l o p s t calls h = absurd (omega (arith, own_small op))
join_turn op l o p s t indexes h = absurd (omega (arith, own_small op))
join_turn op l o p s t (ends e) h = ap (λ r. close r.0 r.1 t e) (reduce_join 0 op l o p s (omega arith))

apply_turn : (x : Prefix) (u : List Lexeme) (p : Part) (s : Stack) (t : Lexeme) (f : Follow)
    → follow_tightness f ≤ prefix_level x + 1
    → have_turn (prefix_level x) p (applying x u s) t f ≡ have_turn (prefix_level x) (applied x u p) s t f
apply_turn x u p s t (link k) h = ap (λ r. if_tight (left_of_link k) (prefix_level x) (after_link k t r))
    (reduce_apply (left_of_link k) x u p s (omega arith))
apply_turn x u p s t a_dot h = absurd (omega (arith, prefix_small x))
apply_turn x u p s t calls h = absurd (omega (arith, prefix_small x))
apply_turn x u p s t indexes h = absurd (omega (arith, prefix_small x))
apply_turn x u p s t (ends e) h = ap (λ r. close r.0 r.1 t e) (reduce_apply 0 x u p s (omega arith))

-- Before what binds no tighter, an operator and its right operand are as good as joined.
pub join_run : (op : Infix) (l : Part) (o : List Lexeme) (p : Part) (s : Stack) (ts : List Lexeme)
    → Stops (own_of op + 1) ts
    → read_tokens (at (have (right_of op) p (joining op l o s))) ts ≡ read_tokens (at (have (own_of op) (joined op l o p) s)) ts
join_run op l o p s [] h = run_none _ ∙ sym (run_none _)
join_run op l o p s (t ∷ ts) h = run_same _ _ t ts (join_turn op l o p s t (follow_of t.kind) h)

-- Before what binds no tighter, a prefix and its operand are as good as joined.
pub apply_run : (x : Prefix) (u : List Lexeme) (p : Part) (s : Stack) (ts : List Lexeme) → Stops (prefix_level x + 1) ts
    → read_tokens (at (have (prefix_level x) p (applying x u s))) ts ≡ read_tokens (at (have (prefix_level x) (applied x u p) s)) ts
apply_run x u p s [] h = run_none _ ∙ sym (run_none _)
apply_run x u p s (t ∷ ts) h = run_same _ _ t ts (apply_turn x u p s t (follow_of t.kind) h)
