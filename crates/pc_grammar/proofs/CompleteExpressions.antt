-- An expression that is spelled is read.
use Rattle.std.proofs.Common.{◌≡◌, ◌⊎◌, ℕ, zero, suc, ◌+◌, ◌≤◌, ◌<◌, Bool, true, false, List, [], ◌∷◌, ◌++◌, refl, ap}
use Rattle.std.proofs.Common.{sym, ◌∙◌, subst, inl, inr, append_assoc, arith}
use Rattle.pc_source.specs.declared.place.Place.{Place}
use Rattle.pc_token.specs.declared.token.TokenKind.TheVariants as kind
use Rattle.pc_token.specs.declared.token.Keyword.TheVariants as word
use Rattle.pc_token.specs.declared.token.Operator.TheVariants as sign
use Rattle.pc_token.specs.Lexeme.{Lexeme}
use Rattle.pc_tree.specs.Tree.{Name, Expr, tuple, is_none, is_not_none, attribute, index, no_exprs}
use Rattle.pc_grammar.specs.Grammar.{◌⟫◌, At, Just, IsName, span, name_of_token}
use Rattle.pc_grammar.specs.Grammar.Expressions.{own_level, Wrapped, Operand, Spells}
use Rattle.pc_grammar.specs.Machine.Kinds.{Infix, arithmetic, comparison, both, either, linking, denying, identifying}
use Rattle.pc_grammar.specs.Machine.Kinds.{Follow, link, a_dot, calls, indexes, ends, follow_of}
use Rattle.pc_grammar.specs.Machine.States.{Part, Prefix, minus, denial, Stack, joining, applying, grouping, indexing}
use Rattle.pc_grammar.specs.Machine.States.{State, operand, have, identified, unidentified, dotted, group_due, stuck}
use Rattle.pc_grammar.specs.Machine.States.{go}
use Rattle.pc_grammar.specs.Machine.States.{on}
use Rattle.pc_grammar.specs.Machine.Expressions.{own_of, left_of, right_of, prefix_level, needed_level, follow_tightness, Stops}
use Rattle.pc_grammar.specs.Machine.Expressions.{bare_part, infix_tree, prefix_tree}
use Rattle.pc_grammar.specs.Machine.{transition, at, read_tokens}
use Rattle.pc_grammar.proofs.Runs.{run_go, have_level, join_run, apply_run, le_true, own_small}
use Rattle.pc_grammar.proofs.Sequences.{token_run, all_three, all_four}
use Rattle.pc_grammar.proofs.Starts.{Starts, starts, starts_append, starts_wrapped, starts_run, stops_just, stops_more}
use Rattle.pc_grammar.specs.Fronts.Expressions.{SpellsInfix, prefix_kind}
use Rattle.pc_grammar.proofs.Operators.{op_run, op_stops, link_go}

-- ---- parts

abbrev pub is_zero : ℕ → Bool
is_zero zero = true
is_zero (suc n) = false

-- the part that a node in n pairs of parentheses is
abbrev pub part_at : ℕ → Expr → List Lexeme → Part
part_at n m ts = record { tree = m; tokens = ts; plain = is_zero n }

-- a part that stands at its own tokens
pub placed : (make : Place → Expr) (p : Place) (ts : List Lexeme) → p ≡ span ts → bare_part make ts ≡ part_at 0 (make p) ts
placed make p ts e = ap (λ q. part_at 0 (make q) ts) (sym e)

-- ---- the statement to prove of a node

abbrev pub ReadsPlain : Expr → Type 0
ReadsPlain m = (ts : List Lexeme) → Spells m ts → (s : Stack) → needed_level s ≤ own_level m → (rest : List Lexeme)
    → Stops (own_level m + 1) rest
    → read_tokens (at (operand s)) (ts ++ rest) ≡ read_tokens (at (have (own_level m) (part_at 0 m ts) s)) rest

follow_small : (f : Follow) → follow_tightness f ≤ 8
follow_small (link (linking (arithmetic o))) = omega (arith, own_small (arithmetic o))
follow_small (link (linking (comparison o))) = omega arith
follow_small (link (linking both)) = omega arith
follow_small (link (linking either)) = omega arith
follow_small (link denying) = omega arith
follow_small (link identifying) = omega arith
follow_small a_dot = omega arith
follow_small calls = omega arith
follow_small indexes = omega arith
follow_small (ends e) = omega arith

stops_all : (ts : List Lexeme) → Stops 8 ts
stops_all [] = tt
stops_all (t ∷ ts) = follow_small (follow_of t.kind)

-- with parentheses around it
pub reads_wrapped : (m : Expr) → ReadsPlain m → (n level : ℕ) → level ≤ 7 → (ts : List Lexeme) → (level ≤ own_level m)
    ⊎ (0 < n) → Wrapped n (λ x. Spells m x) ts
    → (s : Stack) → needed_level s ≤ level → (rest : List Lexeme) → Stops (level + 1) rest
    → read_tokens (at (operand s)) (ts ++ rest) ≡ read_tokens (at (have level (part_at n m ts) s)) rest
reads_wrapped m plain zero level small ts (inl fit) w s r rest st = let wide : Stops (own_level m + 1) rest =
    stops_more (level + 1) (own_level m + 1) rest (omega arith) st in
    plain ts w s (omega arith) rest wide ∙ have_level (own_level m) level (part_at 0 m ts) s rest wide st
reads_wrapped m plain zero level small ts (inr fit) w s r rest st = absurd (omega arith)
reads_wrapped m plain (suc n) level small ts fit w s r rest st =
    let a : List Lexeme = w.front in
    let b : List Lexeme = w.right.front in
    let c : List Lexeme = w.right.back in
    let inner : Starts b = starts_wrapped n (λ x. Spells m x) (λ x y. starts m x y) b w.right.left in
    let p : Part = record { tree = m; tokens = a ++ (b ++ c); plain = false } in
    let P : List Lexeme → Type 0 = λ x. read_tokens (at (operand s)) (x ++ rest) ≡ read_tokens (at (have level (part_at (suc n) m x) s))
    rest in
    subst P (sym (all_three w))
    (ap (read_tokens (at (operand s))) (append_assoc a (b ++ c) rest ∙ ap (λ x. a ++ x) (append_assoc b c rest))
    ∙ token_run (kind.Operator sign.LeftParenthesis) (operand s) (λ x. group_due x s) (λ t. refl) a w.left
    (b ++ (c ++ rest))
    ∙ starts_run (group_due a s) (operand (grouping a s)) (λ t. have 7 (bare_part (λ p. tuple p no_exprs) (a ++ (t ∷ []))) s)
    (kind.Operator sign.RightParenthesis) refl (λ t k. refl) (b ++ (c ++ rest)) (starts_append b (c ++ rest) inner)
    ∙ reads_wrapped m plain n 0 (omega arith) b (inl (omega arith)) w.right.left (grouping a s) (omega arith)
    (c ++ rest)
    (stops_just (kind.Operator sign.RightParenthesis) 1 (omega arith) c w.right.right rest)
    ∙ token_run (kind.Operator sign.RightParenthesis) (have 0 (part_at n m b) (grouping a s))
    (λ x. have 7 (record { tree = m; tokens = a ++ (b ++ x); plain = false }) s) (λ t. refl) c w.right.right rest
    ∙ have_level 7 level p s rest (stops_all rest) st)

pub reads_operand : (m : Expr) → ReadsPlain m → (level : ℕ) → level ≤ 7
    → (ts : List Lexeme) (h : Operand level (own_level m) (λ x. Spells m x) ts)
    → (s : Stack) → needed_level s ≤ level → (rest : List Lexeme) → Stops (level + 1) rest
    → read_tokens (at (operand s)) (ts ++ rest) ≡ read_tokens (at (have level (part_at h.0 m ts) s)) rest
reads_operand m plain level small ts h s r rest st = reads_wrapped m plain h.0 level small ts h.1 h.2 s r rest st

-- ---- operators

right_small : (op : Infix) → right_of op ≤ 7
right_small (arithmetic o) = omega (arith, own_small (arithmetic o))
right_small (comparison o) = omega arith
right_small both = omega arith
right_small either = omega arith

left_small : (op : Infix) → left_of op ≤ 7
left_small (arithmetic o) = omega (arith, own_small (arithmetic o))
left_small (comparison o) = omega arith
left_small both = omega arith
left_small either = omega arith

own_to_left : (op : Infix) → own_of op ≤ left_of op
own_to_left (arithmetic o) = omega arith
own_to_left (comparison o) = omega arith
own_to_left both = omega arith
own_to_left either = omega arith

own_to_right : (op : Infix) → own_of op ≤ right_of op
own_to_right (arithmetic o) = omega arith
own_to_right (comparison o) = omega arith
own_to_right both = omega arith
own_to_right either = omega arith

pub reads_infix : (op : Infix) (l r : Expr) → ReadsPlain l → ReadsPlain r → (p : Place) (ts : List Lexeme)
    → At p (Operand (left_of op) (own_level l) (λ x. Spells l x) ⟫ SpellsInfix op ⟫ Operand (right_of op) (own_level r)
    (λ x. Spells r x)) ts
    → (s : Stack) → needed_level s ≤ own_of op → (rest : List Lexeme) → Stops (own_of op + 1) rest
    → read_tokens (at (operand s)) (ts ++ rest) ≡ read_tokens (at (have (own_of op) (part_at 0 (infix_tree op l r p) ts) s)) rest
reads_infix op l r plain_l plain_r p ts (e, w) s rs rest st =
    let a : List Lexeme = w.front in
    let o : List Lexeme = w.right.front in
    let b : List Lexeme = w.right.back in
    let pa : Part = part_at w.left.0 l a in
    let pb : Part = part_at w.right.right.0 r b in
    let P : List Lexeme → Type 0 = λ x. read_tokens (at (operand s)) (x ++ rest)
    ≡ read_tokens (at (have (own_of op) (bare_part (infix_tree op l r) x) s)) rest in
    subst P (sym (all_three w))
    (ap (read_tokens (at (operand s))) (append_assoc a (o ++ b) rest ∙ ap (λ x. a ++ x) (append_assoc o b rest))
    ∙ reads_operand l plain_l (left_of op) (left_small op) a w.left s (omega (arith, own_to_left op)) (o ++ (b ++ rest))
    (op_stops op o w.right.left (b ++ rest))
    ∙ op_run op o w.right.left pa s rs (b ++ rest)
    ∙ reads_operand r plain_r (right_of op) (right_small op) b w.right.right (joining op pa o s) (omega arith) rest
    (stops_more (own_of op + 1) (right_of op + 1) rest (omega (arith, own_to_right op)) st)
    ∙ join_run op pa o pb s rest st)
    ∙ ap (λ x. read_tokens (at (have (own_of op) x s)) rest) (placed (infix_tree op l r) p ts e)

prefix_go : (x : Prefix) (s : Stack) (t : Lexeme) → needed_level s ≤ prefix_level x → transition (operand s) t (prefix_kind x)
    ≡ go (operand (applying x (t ∷ []) s))
prefix_go minus s t r = refl
prefix_go denial s t r = ap (λ b. on b (operand (applying denial (t ∷ []) s)) stuck) (le_true (needed_level s) 2 r)

prefix_to_seven : (x : Prefix) → prefix_level x ≤ 7
prefix_to_seven minus = omega arith
prefix_to_seven denial = omega arith

pub reads_prefix : (x : Prefix) (m : Expr) → ReadsPlain m → (p : Place) (ts : List Lexeme)
    → At p (Just (prefix_kind x) ⟫ Operand (prefix_level x) (own_level m) (λ y. Spells m y)) ts
    → (s : Stack) → needed_level s ≤ prefix_level x → (rest : List Lexeme) → Stops (prefix_level x + 1) rest
    → read_tokens (at (operand s)) (ts ++ rest) ≡ read_tokens (at (have (prefix_level x) (part_at 0 (prefix_tree x m p) ts) s)) rest
reads_prefix x m plain p ts (e, w) s rs rest st =
    let o : List Lexeme = w.front in
    let b : List Lexeme = w.back in
    let pb : Part = part_at w.right.0 m b in
    let P : List Lexeme → Type 0 = λ y. read_tokens (at (operand s)) (y ++ rest)
    ≡ read_tokens (at (have (prefix_level x) (bare_part (prefix_tree x m) y) s)) rest in
    subst P (sym w.all)
    (ap (read_tokens (at (operand s))) (append_assoc o b rest)
    ∙ token_run (prefix_kind x) (operand s) (λ y. operand (applying x y s)) (λ t. prefix_go x s t rs) o w.left
    (b ++ rest)
    ∙ reads_operand m plain (prefix_level x) (prefix_to_seven x) b w.right (applying x o s) (omega arith) rest st
    ∙ apply_run x o pb s rest st)
    ∙ ap (λ y. read_tokens (at (have (prefix_level x) y s)) rest) (placed (prefix_tree x m) p ts e)

-- ---- `is None` and `is not None`

pub reads_is_none : (p : Place) (m : Expr) → ReadsPlain m → ReadsPlain (is_none p m)
reads_is_none p m plain ts (e, w) s rs rest st =
    let a : List Lexeme = w.front in
    let b : List Lexeme = w.right.front in
    let c : List Lexeme = w.right.back in
    let pa : Part = part_at w.left.0 m a in
    let P : List Lexeme → Type 0 = λ x. read_tokens (at (operand s)) (x ++ rest)
    ≡ read_tokens (at (have 3 (bare_part (λ q. is_none q m) x) s)) rest in
    subst P (sym (all_three w))
    (ap (read_tokens (at (operand s))) (append_assoc a (b ++ c) rest ∙ ap (λ x. a ++ x) (append_assoc b c rest))
    ∙ reads_operand m plain 4 (omega arith) a w.left s (omega arith) (b ++ (c ++ rest))
    (stops_just (kind.Keyword word.Is) 5 (omega arith) b w.right.left (c ++ rest))
    ∙ token_run (kind.Keyword word.Is) (have 4 pa s) (λ x. identified pa x s) (λ t. link_go identifying pa s t rs) b
    w.right.left (c ++ rest)
    ∙ token_run (kind.Keyword word.None) (identified pa b s) (λ x. have 3 (bare_part (λ q. is_none q m) (a ++ (b ++ x))) s)
    (λ t. refl) c w.right.right rest)
    ∙ ap (λ x. read_tokens (at (have 3 x s)) rest) (placed (λ q. is_none q m) p ts e)

pub reads_is_not_none : (p : Place) (m : Expr) → ReadsPlain m → ReadsPlain (is_not_none p m)
reads_is_not_none p m plain ts (e, w) s rs rest st =
    let a : List Lexeme = w.front in
    let b : List Lexeme = w.right.front in
    let c : List Lexeme = w.right.right.front in
    let d : List Lexeme = w.right.right.back in
    let pa : Part = part_at w.left.0 m a in
    let P : List Lexeme → Type 0 = λ x. read_tokens (at (operand s)) (x ++ rest)
    ≡ read_tokens (at (have 3 (bare_part (λ q. is_not_none q m) x) s)) rest in
    subst P (sym (all_four w))
    (ap (read_tokens (at (operand s))) (append_assoc a (b ++ (c ++ d)) rest
    ∙ ap (λ x. a ++ x) (append_assoc b (c ++ d) rest ∙ ap (λ x. b ++ x) (append_assoc c d rest)))
    ∙ reads_operand m plain 4 (omega arith) a w.left s (omega arith) (b ++ (c ++ (d ++ rest)))
    (stops_just (kind.Keyword word.Is) 5 (omega arith) b w.right.left (c ++ (d ++ rest)))
    ∙ token_run (kind.Keyword word.Is) (have 4 pa s) (λ x. identified pa x s) (λ t. link_go identifying pa s t rs) b
    w.right.left (c ++ (d ++ rest))
    ∙ token_run (kind.Keyword word.Not) (identified pa b s) (λ x. unidentified pa (b ++ x) s) (λ t. refl) c
    w.right.right.left (d ++ rest)
    ∙ token_run (kind.Keyword word.None) (unidentified pa (b ++ c) s)
    (λ x. have 3 (bare_part (λ q. is_not_none q m) (a ++ ((b ++ c) ++ x))) s) (λ t. refl) d w.right.right.right rest
    ∙ ap (λ x. read_tokens (at (have 3 (bare_part (λ q. is_not_none q m) (a ++ x)) s)) rest) (append_assoc b c d))
    ∙ ap (λ x. read_tokens (at (have 3 x s)) rest) (placed (λ q. is_not_none q m) p ts e)

-- ---- dots, brackets

pub name_run : (n : Name) (s : State) (next : Name → List Lexeme → State)
    → ((t : Lexeme) → transition s t kind.Name ≡ go (next (name_of_token t) (t ∷ [])))
    → (ts : List Lexeme) → IsName n ts → (rest : List Lexeme) → read_tokens (at s) (ts ++ rest) ≡ read_tokens (at (next n ts)) rest
name_run n s next e ts (t, tk, ne, is) rest =
    ap (λ x. read_tokens (at s) (x ++ rest)) is ∙ run_go s (next (name_of_token t) (t ∷ [])) t rest (ap (transition s t) tk ∙ e t)
    ∙ ap (λ x. read_tokens (at (next x (t ∷ []))) rest) (sym ne) ∙ ap (λ x. read_tokens (at (next n x)) rest) (sym is)

pub reads_attribute : (p : Place) (m : Expr) (f : Name) → ReadsPlain m → ReadsPlain (attribute p m f)
reads_attribute p m f plain ts (e, w) s rs rest st =
    let a : List Lexeme = w.front in
    let b : List Lexeme = w.right.front in
    let c : List Lexeme = w.right.back in
    let pa : Part = part_at w.left.0 m a in
    let P : List Lexeme → Type 0 = λ x. read_tokens (at (operand s)) (x ++ rest)
    ≡ read_tokens (at (have 7 (bare_part (λ q. attribute q m f) x) s)) rest in
    subst P (sym (all_three w))
    (ap (read_tokens (at (operand s))) (append_assoc a (b ++ c) rest ∙ ap (λ x. a ++ x) (append_assoc b c rest))
    ∙ reads_operand m plain 7 (omega arith) a w.left s (omega arith) (b ++ (c ++ rest))
    (stops_just (kind.Operator sign.Dot) 8 (omega arith) b w.right.left (c ++ rest))
    ∙ token_run (kind.Operator sign.Dot) (have 7 pa s) (λ x. dotted pa x s) (λ t. refl) b w.right.left (c ++ rest)
    ∙ name_run f (dotted pa b s) (λ n x. have 7 (bare_part (λ q. attribute q m n) (a ++ (b ++ x))) s) (λ t. refl) c
    w.right.right rest)
    ∙ ap (λ x. read_tokens (at (have 7 x s)) rest) (placed (λ q. attribute q m f) p ts e)

pub reads_index : (p : Place) (m i : Expr) → ReadsPlain m → ReadsPlain i → ReadsPlain (index p m i)
reads_index p m i plain plain_i ts (e, w) s rs rest st =
    let a : List Lexeme = w.front in
    let b : List Lexeme = w.right.front in
    let c : List Lexeme = w.right.right.front in
    let d : List Lexeme = w.right.right.back in
    let pa : Part = part_at w.left.0 m a in
    let pc : Part = part_at w.right.right.left.0 i c in
    let P : List Lexeme → Type 0 = λ x. read_tokens (at (operand s)) (x ++ rest)
    ≡ read_tokens (at (have 7 (bare_part (λ q. index q m i) x) s)) rest in
    subst P (sym (all_four w))
    (ap (read_tokens (at (operand s))) (append_assoc a (b ++ (c ++ d)) rest
    ∙ ap (λ x. a ++ x) (append_assoc b (c ++ d) rest ∙ ap (λ x. b ++ x) (append_assoc c d rest)))
    ∙ reads_operand m plain 7 (omega arith) a w.left s (omega arith) (b ++ (c ++ (d ++ rest)))
    (stops_just (kind.Operator sign.LeftBracket) 8 (omega arith) b w.right.left (c ++ (d ++ rest)))
    ∙ token_run (kind.Operator sign.LeftBracket) (have 7 pa s) (λ x. operand (indexing m (a ++ x) s)) (λ t. refl) b
    w.right.left (c ++ (d ++ rest))
    ∙ reads_operand i plain_i 0 (omega arith) c w.right.right.left (indexing m (a ++ b) s) (omega arith) (d ++ rest)
    (stops_just (kind.Operator sign.RightBracket) 1 (omega arith) d w.right.right.right rest)
    ∙ token_run (kind.Operator sign.RightBracket) (have 0 pc (indexing m (a ++ b) s))
    (λ x. have 7 (bare_part (λ q. index q m i) ((a ++ b) ++ (c ++ x))) s) (λ t. refl) d w.right.right.right rest
    ∙ ap (λ x. read_tokens (at (have 7 (bare_part (λ q. index q m i) x) s)) rest) (append_assoc a b (c ++ d)))
    ∙ ap (λ x. read_tokens (at (have 7 x s)) rest) (placed (λ q. index q m i) p ts e)
