-- Reading of operators.
use Rattle.std.proofs.Common.{◌≡◌, ◌≢◌, ℕ, ◌+◌, ◌≤◌, ◌<◌, nat_le, Bool, true, false, if◌then◌else◌, List, ◌++◌, refl}
use Rattle.std.proofs.Common.{ap, sym, ◌∙◌, subst, append_assoc, arith}
use Rattle.pc_token.specs.declared.token.TokenKind.TheVariants as kind
use Rattle.pc_token.specs.declared.token.Keyword.TheVariants as word
use Rattle.pc_token.specs.declared.token.Operator.TheVariants as sign
use Rattle.pc_token.specs.Lexeme.{Lexeme}
use Rattle.pc_tree.specs.declared.tree.BinaryOperator.{BinaryOperator}
use Rattle.pc_tree.specs.declared.tree.BinaryOperator.TheVariants.{Add, Sub, Mul, FloorDiv, Mod}
use Rattle.pc_tree.specs.declared.tree.ComparisonOperator.TheVariants as cmp
use Rattle.pc_grammar.specs.Grammar.Expressions.{level_of, sign_of}
use Rattle.pc_grammar.specs.Machine.Kinds.{Infix, arithmetic, comparison, both, either, Link, linking, denying}
use Rattle.pc_grammar.specs.Machine.Kinds.{identifying, link, follow_of}
use Rattle.pc_grammar.specs.Machine.States.{Part, minus, denial, Stack, whole, joining, applying, grouping, listing}
use Rattle.pc_grammar.specs.Machine.States.{indexing, naming, keying, valuing, operand, have, denied, stuck, go, on}
use Rattle.pc_grammar.specs.Machine.Expressions.{own_of, left_of, right_of, own_of_link, left_of_link, needed_level}
use Rattle.pc_grammar.specs.Machine.Expressions.{follow_tightness, Stops, joined, applied, reduce, linked, after_link}
use Rattle.pc_grammar.specs.Machine.Expressions.{have_turn}
use Rattle.pc_grammar.specs.Machine.{at, read_tokens}
use Rattle.pc_grammar.specs.Fronts.Expressions.{SpellsInfix}
use Rattle.pc_grammar.proofs.Runs.{le_true, own_small, tight}
use Rattle.pc_grammar.proofs.Sequences.{token_run}
use Rattle.pc_grammar.proofs.Starts.{stops_just}

pub sign_follow : (o : BinaryOperator) → follow_of (kind.Operator (sign_of o)) ≡ link (linking (arithmetic o))
sign_follow Add = refl
sign_follow Sub = refl
sign_follow Mul = refl
sign_follow FloorDiv = refl
sign_follow Mod = refl

level_not_two : (o : BinaryOperator) → level_of o ≢ 2
level_not_two Add = omega arith
level_not_two Sub = omega arith
level_not_two Mul = omega arith
level_not_two FloorDiv = omega arith
level_not_two Mod = omega arith

not_two : (op : Infix) → own_of op ≢ 2
not_two (arithmetic o) = level_not_two o
not_two (comparison o) = omega arith
not_two both = omega arith
not_two either = omega arith

own_left : (op : Infix) → own_of op ≤ left_of op
own_left (arithmetic o) = omega arith
own_left (comparison o) = omega arith
own_left both = omega arith
own_left either = omega arith

pub own_below_right : (op : Infix) → own_of op < right_of op
own_below_right (arithmetic o) = omega arith
own_below_right (comparison o) = omega arith
own_below_right both = omega arith
own_below_right either = omega arith

link_not_two : (l : Link) → own_of_link l ≢ 2
link_not_two (linking op) = not_two op
link_not_two denying = omega arith
link_not_two identifying = omega arith

link_left : (l : Link) → own_of_link l ≤ left_of_link l
link_left (linking op) = own_left op
link_left denying = omega arith
link_left identifying = omega arith

link_small : (l : Link) → own_of_link l ≤ 5
link_small (linking op) = own_small op
link_small denying = omega arith
link_small identifying = omega arith

le_false : (a b : ℕ) → b < a → nat_le a b ≡ false
le_false a b h = by_test (nat_le a b) refl
  where
    by_test : (t : Bool) → nat_le a b ≡ t → t ≡ false
    by_test true e = grind arith
    by_test false e = refl

-- Where an operand of the operator's own level may stand, nothing is joined.
pub reduce_keeps : (low own : ℕ) (p : Part) (s : Stack) → needed_level s ≤ own → own ≤ low → own ≢ 2 → own ≤ 5
    → reduce low p s ≡ (p, s)
reduce_keeps low own p (joining op l o s) r h two small =
    ap (λ b. if b then reduce low (joined op l o p) s else (p, joining op l o s))
    (le_false low (own_of op) (omega (arith, own_below_right op)))
reduce_keeps low own p (applying minus t s) r h two small = absurd (omega arith)
reduce_keeps low own p (applying denial t s) r h two small =
    ap (λ b. if b then reduce low (applied denial t p) s else (p, applying denial t s)) (le_false low 2 (omega arith))
reduce_keeps low own p (whole c) r h two small = refl
reduce_keeps low own p (grouping t s) r h two small = refl
reduce_keeps low own p (listing h' xs ts s) r h two small = refl
reduce_keeps low own p (indexing e ts s) r h two small = refl
reduce_keeps low own p (naming e xs ks n ts s) r h two small = refl
reduce_keeps low own p (keying es ts s) r h two small = refl
reduce_keeps low own p (valuing es k ts s) r h two small = refl

-- an operator whose node has the level that the stack needs is taken
pub link_go : (l : Link) (p : Part) (s : Stack) (t : Lexeme) → needed_level s ≤ own_of_link l
    → have_turn (left_of_link l) p s t (link l) ≡ go (linked l t p s)
link_go l p s t r = tight (left_of_link l) (left_of_link l) _ (omega arith)
    ∙ ap (after_link l t) (reduce_keeps (left_of_link l) (own_of_link l) p s r (link_left l) (link_not_two l)
    (link_small l))
    ∙ ap (λ b. on b (linked l t p s) stuck) (le_true (needed_level s) (own_of_link l) r)

pub op_run : (op : Infix) (o : List Lexeme) → SpellsInfix op o → (p : Part) (s : Stack) → needed_level s ≤ own_of op
    → (rest : List Lexeme)
    → read_tokens (at (have (left_of op) p s)) (o ++ rest) ≡ read_tokens (at (operand (joining op p o s))) rest
op_run (arithmetic o) ts h p s r rest = token_run (kind.Operator (sign_of o)) (have (level_of o) p s)
    (λ x. operand (joining (arithmetic o) p x s))
    (λ t. ap (have_turn (level_of o) p s t) (sign_follow o) ∙ link_go (linking (arithmetic o)) p s t r) ts h rest
op_run (comparison cmp.Equal) ts h p s r rest = token_run (kind.Operator sign.EqualEqual) (have 4 p s)
    (λ x. operand (joining (comparison cmp.Equal) p x s))
    (λ t. link_go (linking (comparison cmp.Equal)) p s t r) ts h rest
op_run (comparison cmp.NotEqual) ts h p s r rest = token_run (kind.Operator sign.NotEqual) (have 4 p s)
    (λ x. operand (joining (comparison cmp.NotEqual) p x s))
    (λ t. link_go (linking (comparison cmp.NotEqual)) p s t r) ts h rest
op_run (comparison cmp.Less) ts h p s r rest = token_run (kind.Operator sign.Less) (have 4 p s)
    (λ x. operand (joining (comparison cmp.Less) p x s))
    (λ t. link_go (linking (comparison cmp.Less)) p s t r) ts h rest
op_run (comparison cmp.LessEqual) ts h p s r rest = token_run (kind.Operator sign.LessEqual) (have 4 p s)
    (λ x. operand (joining (comparison cmp.LessEqual) p x s))
    (λ t. link_go (linking (comparison cmp.LessEqual)) p s t r) ts h rest
op_run (comparison cmp.Greater) ts h p s r rest = token_run (kind.Operator sign.Greater) (have 4 p s)
    (λ x. operand (joining (comparison cmp.Greater) p x s))
    (λ t. link_go (linking (comparison cmp.Greater)) p s t r) ts h rest
op_run (comparison cmp.GreaterEqual) ts h p s r rest = token_run (kind.Operator sign.GreaterEqual) (have 4 p s)
    (λ x. operand (joining (comparison cmp.GreaterEqual) p x s))
    (λ t. link_go (linking (comparison cmp.GreaterEqual)) p s t r) ts h rest
op_run (comparison cmp.In) ts h p s r rest = token_run (kind.Keyword word.In) (have 4 p s)
    (λ x. operand (joining (comparison cmp.In) p x s))
    (λ t. link_go (linking (comparison cmp.In)) p s t r) ts h rest
op_run (comparison cmp.NotIn) ts h p s r rest =
    let P : List Lexeme → Type 0 = λ x. read_tokens (at (have 4 p s)) (x ++ rest)
    ≡ read_tokens (at (operand (joining (comparison cmp.NotIn) p x s))) rest in
    subst P (sym h.all)
    (ap (read_tokens (at (have 4 p s))) (append_assoc h.front h.back rest)
    ∙ token_run (kind.Keyword word.Not) (have 4 p s) (λ x. denied p x s) (λ t. link_go denying p s t r) h.front h.left
    (h.back ++ rest)
    ∙ token_run (kind.Keyword word.In) (denied p h.front s) (λ x.
    operand (joining (comparison cmp.NotIn) p (h.front ++ x) s)) (λ t. refl) h.back h.right rest)
op_run both ts h p s r rest = token_run (kind.Keyword word.And) (have 1 p s) (λ x. operand (joining both p x s))
    (λ t. link_go (linking both) p s t r) ts h rest
op_run either ts h p s r rest = token_run (kind.Keyword word.Or) (have 0 p s) (λ x. operand (joining either p x s))
    (λ t. link_go (linking either) p s t r) ts h rest

-- and what is before it is an operand of its level
pub op_stops : (op : Infix) (o : List Lexeme) → SpellsInfix op o → (rest : List Lexeme)
    → Stops (left_of op + 1) (o ++ rest)
op_stops (arithmetic o) ts h rest = stops_just (kind.Operator (sign_of o)) (level_of o + 1)
    (subst (λ f. follow_tightness f ≤ level_of o + 1) (sym (sign_follow o)) (omega arith)) ts h rest
op_stops (comparison cmp.Equal) ts h rest = stops_just (kind.Operator sign.EqualEqual) 5 (omega arith) ts h rest
op_stops (comparison cmp.NotEqual) ts h rest = stops_just (kind.Operator sign.NotEqual) 5 (omega arith) ts h rest
op_stops (comparison cmp.Less) ts h rest = stops_just (kind.Operator sign.Less) 5 (omega arith) ts h rest
op_stops (comparison cmp.LessEqual) ts h rest = stops_just (kind.Operator sign.LessEqual) 5 (omega arith) ts h rest
op_stops (comparison cmp.Greater) ts h rest = stops_just (kind.Operator sign.Greater) 5 (omega arith) ts h rest
op_stops (comparison cmp.GreaterEqual) ts h rest = stops_just (kind.Operator sign.GreaterEqual) 5 (omega arith) ts h
    rest
op_stops (comparison cmp.In) ts h rest = stops_just (kind.Keyword word.In) 5 (omega arith) ts h rest
op_stops (comparison cmp.NotIn) ts h rest = subst (λ x. Stops 5 (x ++ rest)) (sym h.all)
    (subst (Stops 5) (sym (append_assoc h.front h.back rest)) (stops_just (kind.Keyword word.Not) 5 (omega arith)
    h.front h.left (h.back ++ rest)))
op_stops both ts h rest = stops_just (kind.Keyword word.And) 2 (omega arith) ts h rest
op_stops either ts h rest = stops_just (kind.Keyword word.Or) 1 (omega arith) ts h rest
