-- An expression that is read is spelled by its tokens.
use Rattle.std.proofs.Common.{◌≡◌, ◌⊎◌, ℕ, ◌≤◌, ◌<◌, nat_le, Bool, true, false, if◌then◌else◌, List, [], ◌∷◌, ◌++◌}
use Rattle.std.proofs.Common.{refl, ap, inl, inr, arith, leb-true}
use Rattle.pc_source.specs.declared.place.Place.{Place}
use Rattle.pc_token.specs.declared.token.TokenKind.{TokenKind}
use Rattle.pc_token.specs.declared.token.TokenKind.TheVariants as kind
use Rattle.pc_token.specs.declared.token.Keyword.TheVariants as word
use Rattle.pc_token.specs.declared.token.Operator.TheVariants as sign
use Rattle.pc_token.specs.Lexeme.{Lexeme}
use Rattle.pc_tree.specs.Tree.{Expr, name, number, text, truth, nothing}
use Rattle.pc_grammar.specs.Grammar.{Spelling, Sequence, ◌⟫◌, At, Just, span, name_of_token, digits_of, characters_of}
use Rattle.pc_grammar.specs.Grammar.Expressions.{own_level, Operand, Spells, truth_word}
use Rattle.pc_grammar.specs.Machine.Kinds.{Start, a_name, a_number, a_string, a_truth, a_none, opens_parenthesis}
use Rattle.pc_grammar.specs.Machine.Kinds.{opens_bracket, opens_brace, a_minus, a_not, no_start, operand_start, Infix}
use Rattle.pc_grammar.specs.Machine.Kinds.{arithmetic, comparison, both, either, linking, denying, identifying, Ending}
use Rattle.pc_grammar.specs.Machine.Kinds.{a_comma, a_colon, an_equal, closes_parenthesis, closes_bracket, closes_brace}
use Rattle.pc_grammar.specs.Machine.Kinds.{a_line_end, no_ending, Follow, link, a_dot, calls, indexes, ends, follow_of}
use Rattle.pc_grammar.specs.Machine.States.{Part, Prefix, minus, denial, Stack, whole, joining, applying, grouping}
use Rattle.pc_grammar.specs.Machine.States.{listing, indexing, naming, keying, valuing, operand, have}
use Rattle.pc_grammar.specs.Machine.Expressions.{own_of, left_of, right_of, prefix_level, needed_level, bare_part, infix_tree}
use Rattle.pc_grammar.specs.Machine.Expressions.{prefix_tree, joined, applied, reduce, operand_turn}
use Rattle.pc_grammar.specs.Fronts.{LedTo}
use Rattle.pc_grammar.specs.Fronts.Lines.{Kept}
use Rattle.pc_grammar.specs.Fronts.Expressions.{SpellsInfix, prefix_kind, Holds, Before}
use Rattle.pc_grammar.proofs.Runs.{own_small}
use Rattle.pc_grammar.proofs.Sequences.{to_right, map_left, map_right}
use Rattle.pc_grammar.proofs.Stood.{Stood, grow, just, is_name, on_le, kept_join, end_nothing}

-- ---- meaning of the classes of kinds

abbrev pub StartMeans : Start → TokenKind → Type 0
StartMeans a_name k = k ≡ kind.Name
StartMeans a_number k = k ≡ kind.Int
StartMeans a_string k = k ≡ kind.Str
StartMeans (a_truth b) k = k ≡ kind.Keyword (truth_word b)
StartMeans a_none k = k ≡ kind.Keyword word.None
StartMeans opens_parenthesis k = k ≡ kind.Operator sign.LeftParenthesis
StartMeans opens_bracket k = k ≡ kind.Operator sign.LeftBracket
StartMeans opens_brace k = k ≡ kind.Operator sign.LeftBrace
StartMeans a_minus k = k ≡ kind.Operator sign.Minus
StartMeans a_not k = k ≡ kind.Keyword word.Not
StartMeans no_start k = Unit {0}

pub start_means : (k : TokenKind) → StartMeans (operand_start k) k
start_means kind.Name = refl
start_means kind.Int = refl
start_means kind.Str = refl
start_means (kind.Keyword word.True) = refl
start_means (kind.Keyword word.False) = refl
start_means (kind.Keyword word.None) = refl
start_means (kind.Keyword word.Not) = refl
start_means (kind.Operator sign.LeftParenthesis) = refl
start_means (kind.Operator sign.LeftBracket) = refl
start_means (kind.Operator sign.LeftBrace) = refl
start_means (kind.Operator sign.Minus) = refl
start_means _ = tt

abbrev pub EndMeans : Ending → TokenKind → Type 0
EndMeans a_comma k = k ≡ kind.Operator sign.Comma
EndMeans a_colon k = k ≡ kind.Operator sign.Colon
EndMeans an_equal k = k ≡ kind.Operator sign.Equal
EndMeans closes_parenthesis k = k ≡ kind.Operator sign.RightParenthesis
EndMeans closes_bracket k = k ≡ kind.Operator sign.RightBracket
EndMeans closes_brace k = k ≡ kind.Operator sign.RightBrace
EndMeans a_line_end k = k ≡ kind.Newline
EndMeans no_ending k = Unit {0}

abbrev pub FollowMeans : Follow → TokenKind → Type 0
FollowMeans (link (linking op)) k = (t : Lexeme) → t.kind ≡ k → SpellsInfix op (t ∷ [])
FollowMeans (link denying) k = k ≡ kind.Keyword word.Not
FollowMeans (link identifying) k = k ≡ kind.Keyword word.Is
FollowMeans a_dot k = k ≡ kind.Operator sign.Dot
FollowMeans calls k = k ≡ kind.Operator sign.LeftParenthesis
FollowMeans indexes k = k ≡ kind.Operator sign.LeftBracket
FollowMeans (ends e) k = EndMeans e k

pub follow_means : (k : TokenKind) → FollowMeans (follow_of k) k
follow_means (kind.Operator sign.Plus) = λ t e. (t, e, refl)
follow_means (kind.Operator sign.Minus) = λ t e. (t, e, refl)
follow_means (kind.Operator sign.Star) = λ t e. (t, e, refl)
follow_means (kind.Operator sign.DoubleSlash) = λ t e. (t, e, refl)
follow_means (kind.Operator sign.Percent) = λ t e. (t, e, refl)
follow_means (kind.Operator sign.EqualEqual) = λ t e. (t, e, refl)
follow_means (kind.Operator sign.NotEqual) = λ t e. (t, e, refl)
follow_means (kind.Operator sign.Less) = λ t e. (t, e, refl)
follow_means (kind.Operator sign.LessEqual) = λ t e. (t, e, refl)
follow_means (kind.Operator sign.Greater) = λ t e. (t, e, refl)
follow_means (kind.Operator sign.GreaterEqual) = λ t e. (t, e, refl)
follow_means (kind.Keyword word.In) = λ t e. (t, e, refl)
follow_means (kind.Keyword word.And) = λ t e. (t, e, refl)
follow_means (kind.Keyword word.Or) = λ t e. (t, e, refl)
follow_means (kind.Keyword word.Not) = refl
follow_means (kind.Keyword word.Is) = refl
follow_means (kind.Operator sign.Dot) = refl
follow_means (kind.Operator sign.LeftParenthesis) = refl
follow_means (kind.Operator sign.LeftBracket) = refl
follow_means (kind.Operator sign.Comma) = refl
follow_means (kind.Operator sign.Colon) = refl
follow_means (kind.Operator sign.Equal) = refl
follow_means (kind.Operator sign.RightParenthesis) = refl
follow_means (kind.Operator sign.RightBracket) = refl
follow_means (kind.Operator sign.RightBrace) = refl
follow_means kind.Newline = refl
follow_means _ = tt

-- ---- parts

right_six : (op : Infix) → right_of op ≤ 6
right_six (arithmetic o) = omega (arith, own_small (arithmetic o))
right_six (comparison o) = omega arith
right_six both = omega arith
right_six either = omega arith

pub rank_six : (s : Stack) → needed_level s ≤ 6
rank_six (joining op l o s) = right_six op
rank_six (applying minus t s) = omega arith
rank_six (applying denial t s) = omega arith
rank_six (whole c) = omega arith
rank_six (grouping t s) = omega arith
rank_six (listing h xs ts s) = omega arith
rank_six (indexing e ts s) = omega arith
rank_six (naming e xs ks n ts s) = omega arith
rank_six (keying es ts s) = omega arith
rank_six (valuing es k ts s) = omega arith

lower_fit : (low high own n : ℕ) → low ≤ high → (high ≤ own) ⊎ (0 < n) → (low ≤ own) ⊎ (0 < n)
lower_fit low high own n h (inl f) = inl (omega arith)
lower_fit low high own n h (inr f) = inr f

pub holds_lower : (low high : ℕ) (p : Part) (ts : List Lexeme) → low ≤ high → Holds high p ts → Holds low p ts
holds_lower low high p ts le h = record {
  tokens = h.tokens;
  spelled =
      (h.spelled.0, lower_fit low high (own_level p.tree) h.spelled.0 le h.spelled.1, h.spelled.2);
  plain = h.plain;
}

pub holds_kept : (level : ℕ) (p : Part) (ts : List Lexeme) → Holds level p ts
    → Kept p.tokens (Operand level (own_level p.tree) (λ x. Spells p.tree x)) ts
holds_kept level p ts h = (h.tokens, h.spelled)

-- a node at its own tokens
holds_plain : (level : ℕ) (m : Expr) (ts : List Lexeme) → Spells m ts → level ≤ own_level m
    → Holds level (record { tree = m; tokens = ts; plain = true }) ts
holds_plain level m ts h le = record { tokens = refl; spelled = (0, inl le, h); plain = λ e. h }

-- a node whose place is that of the kept tokens
pub node_holds : (level : ℕ) (make : Place → Expr) (B : Spelling) (tokens us : List Lexeme)
    → ((q : Place) → At q B us → Spells (make q) us) → level ≤ own_level (make (span tokens))
    → Kept tokens B us → Holds level (bare_part make tokens) us
node_holds level make B tokens us spell le h = record {
  tokens = h.0;
  spelled =
      (0, inl le, spell (span tokens) (ap span h.0, h.1));
  plain = λ e. spell (span tokens) (ap span h.0, h.1);
}

pub stands_have : (p : Part) (s : Stack) (ts : List Lexeme) → Sequence (Before s) (Holds 7 p) ts → LedTo (have 7 p s) ts
stands_have p s ts h = (omega (arith, rank_six s), omega arith, h)

-- ---- operands

pub operand_stood : (s : Stack) (t : Lexeme) (x : Start) (ts : List Lexeme) → StartMeans x t.kind → Before s ts
    → Stood (operand_turn s t x) (ts ++ (t ∷ []))
operand_stood s t a_name ts e h = stands_have _ s _ (grow ts t h
    (holds_plain 7 (name (name_of_token t)) (t ∷ []) (is_name t e) (omega arith)))
operand_stood s t a_number ts e h = stands_have _ s _ (grow ts t h
    (holds_plain 7 (number (span (t ∷ [])) (digits_of t.text)) (t ∷ []) (refl, (t, e, refl, refl)) (omega arith)))
operand_stood s t a_string ts e h = stands_have _ s _ (grow ts t h
    (holds_plain 7 (text (span (t ∷ [])) (characters_of t.text)) (t ∷ []) (refl, (t, e, refl, refl)) (omega arith)))
operand_stood s t (a_truth b) ts e h = stands_have _ s _ (grow ts t h
    (holds_plain 7 (truth (span (t ∷ [])) b) (t ∷ []) (refl, (t, e, refl)) (omega arith)))
operand_stood s t a_none ts e h = stands_have _ s _ (grow ts t h
    (holds_plain 7 (nothing (span (t ∷ []))) (t ∷ []) (refl, (t, e, refl)) (omega arith)))
operand_stood s t opens_parenthesis ts e h = grow ts t h (refl, just t _ e)
operand_stood s t opens_bracket ts e h = grow ts t h (refl, end_nothing (t ∷ []) (just t _ e))
operand_stood s t opens_brace ts e h = grow ts t h (refl, end_nothing (t ∷ []) (just t _ e))
operand_stood s t a_minus ts e h = (rank_six s, grow ts t h (refl, just t _ e))
operand_stood s t a_not ts e h = on_le (needed_level s) 2 (operand (applying denial (t ∷ []) s)) (ts ++ (t ∷ []))
    (λ le. (le, grow ts t h (refl, just t _ e)))
operand_stood s t no_start ts e h = tt

-- ---- operators

own_infix : (op : Infix) (l r : Expr) (q : Place) → own_of op ≤ own_level (infix_tree op l r q)
own_infix (arithmetic o) l r q = omega arith
own_infix (comparison o) l r q = omega arith
own_infix both l r q = omega arith
own_infix either l r q = omega arith

infix_spells : (op : Infix) (l r : Expr) (us : List Lexeme) (q : Place)
    → At q (Operand (left_of op) (own_level l) (λ x. Spells l x) ⟫ SpellsInfix op ⟫ Operand (right_of op) (own_level r)
    (λ x. Spells r x)) us → Spells (infix_tree op l r q) us
infix_spells (arithmetic o) l r us q h = h
infix_spells (comparison o) l r us q h = h
infix_spells both l r us q h = h
infix_spells either l r us q h = h

joined_holds : (op : Infix) (l p : Part) (o us : List Lexeme)
    → Sequence (Holds (left_of op) l) (Kept o (SpellsInfix op) ⟫ Holds (right_of op) p) us
    → Holds (own_of op) (joined op l o p) us
joined_holds op l p o us w = node_holds (own_of op) (infix_tree op l.tree p.tree)
    (Operand (left_of op) (own_level l.tree) (λ x. Spells l.tree x) ⟫ SpellsInfix op ⟫ Operand (right_of op)
    (own_level p.tree) (λ x. Spells p.tree x)) (l.tokens ++ (o ++ p.tokens)) us (infix_spells op l.tree p.tree us)
    (own_infix op l.tree p.tree _)
    (kept_join l.tokens (o ++ p.tokens) us (map_left (holds_kept (left_of op) l)
    (map_right (λ vs v. kept_join o p.tokens vs (map_right (holds_kept (right_of op) p) v)) w)))

prefix_own : (x : Prefix) (m : Expr) (q : Place) → prefix_level x ≤ own_level (prefix_tree x m q)
prefix_own minus m q = omega arith
prefix_own denial m q = omega arith

prefix_spells : (x : Prefix) (m : Expr) (us : List Lexeme) (q : Place)
    → At q (Just (prefix_kind x) ⟫ Operand (prefix_level x) (own_level m) (λ y. Spells m y)) us
    → Spells (prefix_tree x m q) us
prefix_spells minus m us q h = h
prefix_spells denial m us q h = h

applied_holds : (x : Prefix) (p : Part) (o us : List Lexeme) → Sequence (Kept o (Just (prefix_kind x)))
    (Holds (prefix_level x) p) us → Holds (prefix_level x) (applied x o p) us
applied_holds x p o us w = node_holds (prefix_level x) (prefix_tree x p.tree)
    (Just (prefix_kind x) ⟫ Operand (prefix_level x) (own_level p.tree) (λ y. Spells p.tree y)) (o ++ p.tokens) us
    (prefix_spells x p.tree us) (prefix_own x p.tree _)
    (kept_join o p.tokens us (map_right (holds_kept (prefix_level x) p) w))

abbrev pub Reduced : ℕ → (p : Part) × Stack → Spelling
Reduced level r = Before r.1 ⟫ Holds level r.0

reduce_test : (level own : ℕ) (a b : (p : Part) × Stack) (ts : List Lexeme) → (level ≤ own → Reduced level a ts)
    → Reduced level b ts → Reduced level (if nat_le level own then a else b) ts
reduce_test level own a b ts fits otherwise = by_test (nat_le level own) refl
  where
    by_test : (x : Bool) → nat_le level own ≡ x → Reduced level (if x then a else b) ts
    by_test true e = fits (leb-true level own e)
    by_test false e = otherwise

pub reduce_holds : (level high : ℕ) (s : Stack) (p : Part) (ts : List Lexeme) → needed_level s ≤ high → level ≤ high
    → Sequence (Before s) (Holds high p) ts → Reduced level (reduce level p s) ts
reduce_holds level high (joining op l o s) p ts r le w = reduce_test level (own_of op)
    (reduce level (joined op l o p) s) (p, joining op l o s) ts
    (λ fit. reduce_holds level (own_of op) s (joined op l o p) ts w.left.0 fit
    (map_right (joined_holds op l p o)
    (to_right (to_right (record {
      front = w.front;
      back = w.back;
      all = w.all;
      left = w.left.1;
      right =
          holds_lower (right_of op) high p w.back r w.right;
    })))))
    (map_right (λ us h. holds_lower level high p us le h) w)
reduce_holds level high (applying x o s) p ts r le w = reduce_test level (prefix_level x)
    (reduce level (applied x o p) s) (p, applying x o s) ts
    (λ fit. reduce_holds level (prefix_level x) s (applied x o p) ts w.left.0 fit
    (map_right (applied_holds x p o)
    (to_right (record {
      front = w.front;
      back = w.back;
      all = w.all;
      left = w.left.1;
      right =
          holds_lower (prefix_level x) high p w.back r w.right;
    }))))
    (map_right (λ us h. holds_lower level high p us le h) w)
reduce_holds level high (whole c) p ts r le w = map_right (λ us h. holds_lower level high p us le h) w
reduce_holds level high (grouping o s) p ts r le w = map_right (λ us h. holds_lower level high p us le h) w
reduce_holds level high (listing h' xs o s) p ts r le w = map_right (λ us h. holds_lower level high p us le h) w
reduce_holds level high (indexing e o s) p ts r le w = map_right (λ us h. holds_lower level high p us le h) w
reduce_holds level high (naming e xs ks n o s) p ts r le w = map_right (λ us h. holds_lower level high p us le h) w
reduce_holds level high (keying es o s) p ts r le w = map_right (λ us h. holds_lower level high p us le h) w
reduce_holds level high (valuing es k o s) p ts r le w = map_right (λ us h. holds_lower level high p us le h) w
