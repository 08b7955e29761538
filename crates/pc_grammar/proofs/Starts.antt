-- The first tokens of spelled expressions.
use Rattle.std.proofs.Common.{◌≡◌, ℕ, zero, suc, ◌≤◌, Bool, true, false, List, [], ◌∷◌, ◌++◌, refl, ap, sym, ◌∙◌, subst}
use Rattle.std.proofs.Common.{arith}
use Rattle.pc_token.specs.declared.token.TokenKind.{TokenKind}
use Rattle.pc_token.specs.declared.token.TokenKind.TheVariants as kind
use Rattle.pc_token.specs.declared.token.Keyword.TheVariants as word
use Rattle.pc_token.specs.declared.token.Operator.TheVariants as sign
use Rattle.pc_token.specs.Lexeme.{Lexeme}
use Rattle.pc_tree.specs.Tree.{Expr, name, number, text, truth, nothing, tuple, list, dict, negative, negation, binary}
use Rattle.pc_tree.specs.Tree.{compare, is_none, is_not_none, conjunction, disjunction, attribute, index, call}
use Rattle.pc_tree.specs.Tree.{no_exprs, more_exprs}
use Rattle.pc_grammar.specs.Grammar.{Spelling, Sequence, Just}
use Rattle.pc_grammar.specs.Grammar.Expressions.{own_level, Wrapped, Operand, Spells}
use Rattle.pc_grammar.specs.Machine.Kinds.{same_kind, Start, no_start, operand_start}
use Rattle.pc_grammar.specs.Machine.States.{State, on}
use Rattle.pc_grammar.specs.Machine.Expressions.{tightness, Stops}
use Rattle.pc_grammar.specs.Machine.{transition, at, read_tokens}
use Rattle.pc_grammar.proofs.Runs.{run_same}
use Rattle.pc_grammar.proofs.SameKind.{same_kind_is}

abbrev pub IsStart : Start → Type 0
IsStart no_start = ⊥
IsStart _ = Unit {0}

-- the first token may begin an operand
abbrev pub Starts : Spelling
Starts [] = ⊥
Starts (t ∷ ts) = IsStart (operand_start t.kind)

pub starts_append : (a b : List Lexeme) → Starts a → Starts (a ++ b)
starts_append [] b h = absurd h
starts_append (t ∷ a) b h = h

pub starts_first : {A B : Spelling} {ts : List Lexeme} (h : Sequence A B ts) → Starts h.front → Starts ts
starts_first h f = subst Starts (sym h.all) (starts_append h.front h.back f)

pub starts_just : (k : TokenKind) → IsStart (operand_start k) → (ts : List Lexeme) → Just k ts → Starts ts
starts_just k h ts (t, tk, is) = subst Starts (sym is) (subst (λ x. IsStart (operand_start x)) (sym tk) h)

pub starts_wrapped : (n : ℕ) (A : Spelling) → ((ts : List Lexeme) → A ts → Starts ts) → (ts : List Lexeme)
    → Wrapped n A ts → Starts ts
starts_wrapped zero A plain ts h = plain ts h
starts_wrapped (suc n) A plain ts h = starts_first h (starts_just (kind.Operator sign.LeftParenthesis) tt h.front
    h.left)

pub starts : (m : Expr) (ts : List Lexeme) → Spells m ts → Starts ts
starts (name n) ts h = starts_just kind.Name tt ts (h.0, h.1, h.3)
starts (number p digits) ts h = starts_just kind.Int tt ts (h.1.0, h.1.1, h.1.3)
starts (text p characters) ts h = starts_just kind.Str tt ts (h.1.0, h.1.1, h.1.3)
starts (truth p true) ts h = starts_just (kind.Keyword word.True) tt ts h.1
starts (truth p false) ts h = starts_just (kind.Keyword word.False) tt ts h.1
starts (nothing p) ts h = starts_just (kind.Keyword word.None) tt ts h.1
starts (tuple p no_exprs) ts h = starts_first h.1 (starts_just (kind.Operator sign.LeftParenthesis) tt h.1.front
    h.1.left)
starts (tuple p (more_exprs x xs)) ts h = starts_first h.1 (starts_just (kind.Operator sign.LeftParenthesis) tt
    h.1.front h.1.left)
starts (list p xs) ts h = starts_first h.1 (starts_just (kind.Operator sign.LeftBracket) tt h.1.front h.1.left)
starts (dict p es) ts h = starts_first h.1 (starts_just (kind.Operator sign.LeftBrace) tt h.1.front h.1.left)
starts (negative p e) ts h = starts_first h.1 (starts_just (kind.Operator sign.Minus) tt h.1.front h.1.left)
starts (negation p e) ts h = starts_first h.1 (starts_just (kind.Keyword word.Not) tt h.1.front h.1.left)
starts (binary p o l r) ts h = starts_first h.1 (starts_wrapped h.1.left.0 (λ x. Spells l x) (λ x y. starts l x y)
    h.1.front h.1.left.2)
starts (compare p o l r) ts h = starts_first h.1 (starts_wrapped h.1.left.0 (λ x. Spells l x) (λ x y. starts l x y)
    h.1.front h.1.left.2)
starts (is_none p e) ts h = starts_first h.1 (starts_wrapped h.1.left.0 (λ x. Spells e x) (λ x y. starts e x y)
    h.1.front h.1.left.2)
starts (is_not_none p e) ts h = starts_first h.1 (starts_wrapped h.1.left.0 (λ x. Spells e x) (λ x y. starts e x y)
    h.1.front h.1.left.2)
starts (conjunction p l r) ts h = starts_first h.1 (starts_wrapped h.1.left.0 (λ x. Spells l x) (λ x y. starts l x y)
    h.1.front h.1.left.2)
starts (disjunction p l r) ts h = starts_first h.1 (starts_wrapped h.1.left.0 (λ x. Spells l x) (λ x y. starts l x y)
    h.1.front h.1.left.2)
starts (attribute p e f) ts h = starts_first h.1 (starts_wrapped h.1.left.0 (λ x. Spells e x) (λ x y. starts e x y)
    h.1.front h.1.left.2)
starts (index p e i) ts h = starts_first h.1 (starts_wrapped h.1.left.0 (λ x. Spells e x) (λ x y. starts e x y)
    h.1.front h.1.left.2)
starts (call p e xs ks) ts h = starts_first h.1 (starts_wrapped h.1.left.0 (λ x. Spells e x) (λ x y. starts e x y)
    h.1.front h.1.left.2)

pub starts_operand : (level : ℕ) (m : Expr) (ts : List Lexeme) → Operand level (own_level m) (λ x. Spells m x) ts
    → Starts ts
starts_operand level m ts h = starts_wrapped h.0 (λ x. Spells m x) (λ x y. starts m x y) ts h.2

-- a token that begins an operand is no closing bracket, nor another kind that begins none
pub not_start : (k c : TokenKind) → operand_start c ≡ no_start → IsStart (operand_start k) → same_kind k c ≡ false
not_start k c none h = by_test (same_kind k c) refl
  where
    by_test : (b : Bool) → same_kind k c ≡ b → b ≡ false
    by_test true e = absurd (subst IsStart none (subst (λ x. IsStart (operand_start x)) (same_kind_is k c e) h))
    by_test false e = refl

-- A state that takes one more token, which begins no operand, takes what begins one as the other state does.
pub starts_run : (s next : State) (other : Lexeme → State) (c : TokenKind) → operand_start c ≡ no_start
    → ((t : Lexeme) (k : TokenKind) → transition s t k ≡ on (same_kind k c) (other t) (transition next t k))
    → (ts : List Lexeme) → Starts ts → read_tokens (at s) ts ≡ read_tokens (at next) ts
starts_run s next other c none e [] h = absurd h
starts_run s next other c none e (t ∷ ts) h =
    run_same s next t ts (e t t.kind ∙ ap (λ b. on b (other t) (transition next t t.kind)) (not_start t.kind c none h))

pub stops_just : (k : TokenKind) (level : ℕ) → tightness k ≤ level → (ts : List Lexeme) → Just k ts
    → (rest : List Lexeme) → Stops level (ts ++ rest)
stops_just k level h ts (t, tk, is) rest = subst (λ x. Stops level (x ++ rest)) (sym is)
    (subst (λ x. tightness x ≤ level) (sym tk) h)

pub stops_more : (low high : ℕ) (ts : List Lexeme) → low ≤ high → Stops low ts → Stops high ts
stops_more low high [] h s = tt
stops_more low high (t ∷ ts) h s = omega arith
