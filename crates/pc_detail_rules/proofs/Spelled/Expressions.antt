-- The expressions that tokens in order spell have places of their own.
use Rattle.std.proofs.Common.{◌≡◌, ◌≤◌, ◌<◌, ◌+◌, ℕ, zero, suc, List, [], ◌∷◌, ◌++◌, true, false, refl, sym}
use Rattle.std.proofs.Common.{ap, ◌∙◌, subst, inl, inr, arith}
use Rattle.std.specs.Prelude.{⊤}
use Rattle.pc_source.specs.declared.place.Place.{Place}
use Rattle.pc_token.specs.declared.token.TokenKind.{TokenKind}
use Rattle.pc_token.specs.declared.token.TokenKind.TheVariants as kind
use Rattle.pc_token.specs.declared.token.Keyword.TheVariants as word
use Rattle.pc_token.specs.declared.token.Operator.TheVariants as sign
use Rattle.pc_token.specs.Lexeme.{Lexeme}
use Rattle.pc_tree.specs.declared.tree.ComparisonOperator.{ComparisonOperator}
use Rattle.pc_tree.specs.declared.tree.ComparisonOperator.TheVariants as comparison
use Rattle.pc_tree.specs.Depth.{place_of}
use Rattle.pc_tree.specs.Tree.{Expr, name, number, text, truth, nothing, tuple, list, dict, negative, negation, binary}
use Rattle.pc_tree.specs.Tree.{compare, is_none, is_not_none, conjunction, disjunction, attribute, index, call, Exprs}
use Rattle.pc_tree.specs.Tree.{no_exprs, more_exprs, Entries, no_entries, more_entries, Keywords, no_keywords}
use Rattle.pc_tree.specs.Tree.{more_keywords, Name}
use Rattle.pc_scope.specs.Expressions.{parts_in, parts_in_all, parts_in_entries, parts_in_keywords}
use Rattle.pc_grammar.specs.Grammar.{Spelling, At, Sequence, ◌⟫◌, Nothing, Just, Sign, AfterComma, span}
use Rattle.pc_grammar.specs.Grammar.Expressions.{level_of, own_level, sign_of, SpellsComparison, Wrapped, Operand}
use Rattle.pc_grammar.specs.Grammar.Expressions.{Spells, Items}
use Rattle.pc_grammar.specs.Grammar.Expressions.{SpellsEntries, SpellsKeywords, Expression}
use Rattle.pc_detail_rules.proofs.Spelled.Between.{is_of_line}
use Rattle.pc_detail_rules.proofs.Spelled.Between.{Between, in_between, cut_sequence, one_token, solid, placed, Apart}
use Rattle.pc_detail_rules.proofs.Spelled.Between.{none_apart, wider, beside, same_apart, not_behind}
use Rattle.pc_detail_rules.proofs.Spelled.Counted.{at, at_append, one_apart, around, around_two}

-- how many of these expressions are at a place
abbrev pub exprs_at : List Expr → Place → ℕ
exprs_at es = at place_of es

-- the tokens of a spelling hold so many things at each place, in order
abbrev pub Holds : Spelling → (Place → ℕ) → Type 0
Holds A n = (ts : List Lexeme) → A ts → (low high : ℕ) → Between low ts high → Apart low high n

-- the tokens of a spelling are not empty
abbrev pub IsSolid : Spelling → Type 0
IsSolid A = (ts : List Lexeme) → A ts → (low high : ℕ) → Between low ts high → low < high

-- ---- tokens that are not empty

pub just_solid : (k : TokenKind) → is_of_line k ≡ true → IsSolid (Just k)
just_solid k line ts s low high b = solid k line low ts high b s

pub first_solid : {A B : Spelling} → IsSolid A → IsSolid (A ⟫ B)
first_solid f ts s low high b =
    let c = cut_sequence low ts high b s in
    let x = f s.front s.left low c.at c.left in
    let y = in_between c.at s.back high c.right in
    omega (arith, x, y)

pub behind_solid : {A B : Spelling} → IsSolid B → IsSolid (A ⟫ B)
behind_solid f ts s low high b =
    let c = cut_sequence low ts high b s in
    let x = in_between low s.front c.at c.left in
    let y = f s.back s.right c.at high c.right in
    omega (arith, x, y)

comparison_solid : (o : ComparisonOperator) → IsSolid (SpellsComparison o)
comparison_solid comparison.Equal = just_solid (kind.Operator sign.EqualEqual) refl
comparison_solid comparison.NotEqual = just_solid (kind.Operator sign.NotEqual) refl
comparison_solid comparison.Less = just_solid (kind.Operator sign.Less) refl
comparison_solid comparison.LessEqual = just_solid (kind.Operator sign.LessEqual) refl
comparison_solid comparison.Greater = just_solid (kind.Operator sign.Greater) refl
comparison_solid comparison.GreaterEqual = just_solid (kind.Operator sign.GreaterEqual) refl
comparison_solid comparison.In = just_solid (kind.Keyword word.In) refl
comparison_solid comparison.NotIn = first_solid (just_solid (kind.Keyword word.Not) refl)

-- ---- sequences

-- no things
pub holds_none : (A : Spelling) → Holds A (λ p. 0)
holds_none A ts s low high b = none_apart low high

-- things behind other tokens, and things before them
pub but_first : {A B : Spelling} (n : Place → ℕ) → Holds B n → Holds (A ⟫ B) n
but_first n f ts s low high b =
    let c = cut_sequence low ts high b s in
    let x : high ≤ high = omega arith in
    wider n (f s.back s.right c.at high c.right) (in_between low s.front c.at c.left) x

pub but_last : {A B : Spelling} (n : Place → ℕ) → Holds A n → Holds (A ⟫ B) n
but_last n f ts s low high b =
    let c = cut_sequence low ts high b s in
    let x : low ≤ low = omega arith in
    wider n (f s.front s.left low c.at c.left) x (in_between c.at s.back high c.right)

-- things of both
pub in_turn : {A B : Spelling} (n k : Place → ℕ) → Holds A n → Holds B k → Holds (A ⟫ B) (λ p. n p + k p)
in_turn n k f g ts s low high b =
    let c = cut_sequence low ts high b s in
    let x : c.at ≤ c.at = omega arith in
    beside n k (f s.front s.left low c.at c.left) (g s.back s.right c.at high c.right)
    (in_between low s.front c.at c.left) x (in_between c.at s.back high c.right)

pub counted_as : {A : Spelling} (n k : Place → ℕ) → ((p : Place) → n p ≡ k p) → Holds A n → Holds A k
counted_as n k e f ts s low high b = same_apart n k e (f ts s low high b)

-- things after a comma, or none
pub after_comma : {last : Type 0} {A : Spelling} (n : Place → ℕ) → Holds A n → (last → (p : Place) → 0 ≡ n p)
    → Holds (AfterComma last A) n
after_comma n f none ts s low high b = elim s [
  | inl a ↦ but_first n f ts a low high b
  | inr z ↦ same_apart (λ p. 0) n (none z.0) (none_apart low high)
]

-- in parentheses
wrapped : (A : Spelling) (n : Place → ℕ) → Holds A n → (k : ℕ) → Holds (Wrapped k A) n
wrapped A n f zero ts s low high b = f ts s low high b
wrapped A n f (suc k) ts s low high b = but_first n (but_last n (wrapped A n f k)) ts s low high b

pub operand : (level own : ℕ) (A : Spelling) (n : Place → ℕ) → Holds A n → Holds (Operand level own A) n
operand level own A n f ts o low high b = wrapped A n f o.0 ts o.2 low high b

-- ---- one token

leaf : (e : Expr) (t : Lexeme) (ts : List Lexeme) → place_of e ≡ t.place → is_of_line t.kind ≡ true → ts ≡ t ∷ []
    → (low high : ℕ) → Between low ts high → Apart low high (exprs_at (e ∷ []))
leaf e t ts at_token line one low high b =
    let o = one_token t low high (subst (λ (xs : List Lexeme). Between low xs high) one b) line in
    one_apart place_of low high e (subst (λ (q : Place). low ≤ q.start) (sym at_token) o.0)
    (subst (λ (q : Place). q.start < q.end) (sym at_token) o.1)
    (subst (λ (q : Place). q.end ≤ high) (sym at_token) o.2)

-- a node whose place is that of one token
token_leaf : (e : Expr) (t : Lexeme) (k : TokenKind) (ts : List Lexeme) → place_of e ≡ span ts → t.kind ≡ k
    → is_of_line k ≡ true → ts ≡ t ∷ [] → (low high : ℕ) → Between low ts high → Apart low high (exprs_at (e ∷ []))
token_leaf e t k ts at_span is line one low high b =
    leaf e t ts (at_span ∙ ap span one) (subst (λ (x : TokenKind). is_of_line x ≡ true) (sym is) line) one low high b

-- ---- nodes with parts

-- a node stands between the ends of its place
whole : (p : Place) (A : Spelling) (n : Place → ℕ) → IsSolid A
    → ((ts : List Lexeme) → A ts → Between p.start ts p.end → Apart p.start p.end n) → Holds (At p A) n
whole p A n some inner ts s low high b =
    let r = placed low ts high b (λ l h k. some ts s.1 l h k) in
    wider n (inner ts s.1 (subst (λ (q : Place). Between q.start ts q.end) (sym s.0) r.between))
    (subst (λ (q : Place). low ≤ q.start) (sym s.0) r.low_end)
    (subst (λ (q : Place). q.end ≤ high) (sym s.0) r.high_end)

-- a node that begins with tokens, and then has parts
prefixed : {A B : Spelling} (e : Expr) (es : List Expr) → IsSolid A → Holds B (exprs_at es)
    → Holds (At (place_of e) (A ⟫ B)) (exprs_at (e ∷ es))
prefixed {A} {B} e es some f = whole (place_of e) (A ⟫ B) (exprs_at (e ∷ es)) (first_solid some) inner
  where
    inner : (ts : List Lexeme) → Sequence A B ts → Between (place_of e).start ts (place_of e).end
        → Apart (place_of e).start (place_of e).end (exprs_at (e ∷ es))
    inner ts s b =
        let p = place_of e in
        let c = cut_sequence p.start ts p.end b s in
        let x = some s.front s.left p.start c.at c.left in
        let y = in_between c.at s.back p.end c.right in
        let z : p.start ≤ p.start = omega arith in
        let ends : p.start < p.end = omega (arith, x, y) in
        let mk : p.start ≤ c.at = omega (arith, x) in
        around_two place_of e [] es (none_apart p.start p.start) ends (f s.back s.right c.at p.end c.right) x mk z y

-- a node with parts, and then tokens
suffixed : {A B : Spelling} (e : Expr) (es : List Expr) → Holds A (exprs_at es) → IsSolid B
    → Holds (At (place_of e) (A ⟫ B)) (exprs_at (e ∷ es))
suffixed {A} {B} e es f some = whole (place_of e) (A ⟫ B) (exprs_at (e ∷ es)) (behind_solid some) inner
  where
    inner : (ts : List Lexeme) → Sequence A B ts → Between (place_of e).start ts (place_of e).end
        → Apart (place_of e).start (place_of e).end (exprs_at (e ∷ es))
    inner ts s b =
        let p = place_of e in
        let c = cut_sequence p.start ts p.end b s in
        let x = in_between p.start s.front c.at c.left in
        let y = some s.back s.right c.at p.end c.right in
        let high : c.at ≤ p.end = omega (arith, y) in
        let low : p.start ≤ p.start = omega arith in
        let within = f s.front s.left p.start c.at c.left in
        around place_of e es (omega (arith, x, y)) (wider (exprs_at es) within low high)
        (not_behind p.start c.at p (exprs_at es p) (within p) y)

-- a node with two groups of parts, and tokens between them
parted : {A S B : Spelling} (e : Expr) (xs ys : List Expr) → Holds A (exprs_at xs) → IsSolid S → Holds B (exprs_at ys)
    → Holds (At (place_of e) (A ⟫ (S ⟫ B))) (exprs_at (e ∷ (xs ++ ys)))
parted {A} {S} {B} e xs ys f some g =
    whole (place_of e) (A ⟫ (S ⟫ B)) (exprs_at (e ∷ (xs ++ ys))) (behind_solid (first_solid some)) inner
  where
    inner : (ts : List Lexeme) → Sequence A (S ⟫ B) ts → Between (place_of e).start ts (place_of e).end
        → Apart (place_of e).start (place_of e).end (exprs_at (e ∷ (xs ++ ys)))
    inner ts s b =
        let p = place_of e in
        let c = cut_sequence p.start ts p.end b s in
        let d = cut_sequence c.at s.back p.end c.right s.right in
        let x = in_between p.start s.front c.at c.left in
        let y = some s.right.front s.right.left c.at d.at d.left in
        let z = in_between d.at s.right.back p.end d.right in
        let ends : c.at < p.end = omega (arith, y, z) in
        let begins : p.start < d.at = omega (arith, x, y) in
        let mk : c.at ≤ d.at = omega (arith, y) in
        around_two place_of e xs ys (f s.front s.left p.start c.at c.left) ends
        (g s.right.back s.right.right d.at p.end d.right) begins mk x z

-- both groups as one list
pub joined : {A : Spelling} (xs ys : List Expr) → Holds A (λ p. exprs_at xs p + exprs_at ys p)
    → Holds A (exprs_at (xs ++ ys))
joined xs ys f = counted_as (λ p. exprs_at xs p + exprs_at ys p) (exprs_at (xs ++ ys))
    (λ p. sym (at_append place_of xs ys p)) f

-- ---- expressions

-- in turn, as one list
both : {A B : Spelling} (xs ys : List Expr) → Holds A (exprs_at xs) → Holds B (exprs_at ys)
    → Holds (A ⟫ B) (exprs_at (xs ++ ys))
both xs ys f g = joined xs ys (in_turn (exprs_at xs) (exprs_at ys) f g)

-- no further items, entries and arguments
none_more : (n : ℕ) → n ≡ 0 + n
none_more n = omega arith

no_items : (es : Exprs) → es ≡ no_exprs → (p : Place) → exprs_at (parts_in_all false es) p ≡ 0
no_items no_exprs e p = refl
no_items (more_exprs x xs) e p = absurd (cc e)

nothing_left : (es : Exprs) (n : Place → ℕ) (p : Place) → es ≡ no_exprs → 0 ≡ n p
    → 0 ≡ exprs_at (parts_in_all false es) p + n p
nothing_left es n p e h = let a = no_items es e p in omega (arith, a, h)

no_more_entries : (es : Entries) → es ≡ no_entries → (p : Place) → 0 ≡ exprs_at (parts_in_entries false es) p
no_more_entries no_entries e p = refl
no_more_entries (more_entries x y es) e p = absurd (cc e)

no_keys : (es : Keywords) → es ≡ no_keywords → (p : Place) → 0 ≡ exprs_at (parts_in_keywords false es) p
no_keys no_keywords e p = refl
no_keys (more_keywords n x es) e p = absurd (cc e)

grouped : (xs ys : List Expr) (n : Place → ℕ) (p : Place)
    → exprs_at xs p + (exprs_at ys p + n p) ≡ exprs_at (xs ++ ys) p + n p
grouped xs ys n p = let e = at_append place_of xs ys p in omega (arith, e)

-- items alone
alone : (es : Exprs) (last : Type 0)
    → Holds (Items es Nothing last) (λ p. exprs_at (parts_in_all false es) p + 0)
    → Holds (Items es Nothing last) (exprs_at (parts_in_all false es))
alone es last f = counted_as (λ p. exprs_at (parts_in_all false es) p + 0) (exprs_at (parts_in_all false es))
    (λ p. more_none (exprs_at (parts_in_all false es) p)) f
  where
    more_none : (n : ℕ) → n + 0 ≡ n
    more_none n = omega arith

-- an item, further items, and others
more_items : (x : Expr) (xs : Exprs) (Others : Spelling) (last : Type 0) (n : Place → ℕ)
    → (last → (p : Place) → 0 ≡ n p) → Holds (Spells x) (exprs_at (parts_in false x))
    → Holds (Items xs Others last) (λ p. exprs_at (parts_in_all false xs) p + n p)
    → Holds (Items (more_exprs x xs) Others last) (λ p. exprs_at (parts_in_all false (more_exprs x xs)) p + n p)
more_items x xs Others last n none f g =
    let first = exprs_at (parts_in false x) in
    let later : Place → ℕ = λ p. exprs_at (parts_in_all false xs) p + n p in
    counted_as (λ p. first p + later p) (λ p. exprs_at (parts_in false x ++ parts_in_all false xs) p + n p)
    (λ p. grouped (parts_in false x) (parts_in_all false xs) n p)
    (in_turn first later (operand 0 (own_level x) (Spells x) first f)
    (after_comma later g (λ e p. nothing_left xs n p e.0 (none e.1 p))))

mutual
  pub spelled : (e : Expr) → Holds (Spells e) (exprs_at (parts_in false e))
  spelled (name n) ts s low high b = leaf (name n) s.0 ts (ap (λ (x : Name). x.place) s.2)
      (subst (λ (x : TokenKind). is_of_line x ≡ true) (sym s.1) refl) s.3 low high b
  spelled (number p d) ts s low high b =
      token_leaf (number p d) s.1.0 kind.Int ts s.0 s.1.1 refl s.1.3 low high b
  spelled (text p d) ts s low high b = token_leaf (text p d) s.1.0 kind.Str ts s.0 s.1.1 refl s.1.3 low high b
  spelled (truth p true) ts s low high b =
      token_leaf (truth p true) s.1.0 (kind.Keyword word.True) ts s.0 s.1.1 refl s.1.2 low high b
  spelled (truth p false) ts s low high b =
      token_leaf (truth p false) s.1.0 (kind.Keyword word.False) ts s.0 s.1.1 refl s.1.2 low high b
  spelled (nothing p) ts s low high b =
      token_leaf (nothing p) s.1.0 (kind.Keyword word.None) ts s.0 s.1.1 refl s.1.2 low high b
  spelled (tuple p no_exprs) ts s low high b =
      prefixed (tuple p no_exprs) [] (just_solid (kind.Operator sign.LeftParenthesis) refl)
      (holds_none (Sign sign.RightParenthesis)) ts s low high b
  spelled (tuple p (more_exprs x xs)) ts s low high b =
      prefixed (tuple p (more_exprs x xs)) (parts_in false x ++ parts_in_all false xs)
      (just_solid (kind.Operator sign.LeftParenthesis) refl)
      (both (parts_in false x) (parts_in_all false xs)
      (operand 0 (own_level x) (Spells x) (exprs_at (parts_in false x)) (λ us r l h k. spelled x us r l h k))
      (but_first (exprs_at (parts_in_all false xs)) (but_last (exprs_at (parts_in_all false xs))
      (λ us r l h k. alone xs ⊤ (λ vs q i j g. items xs vs q i j g) us r l h k)))) ts s low high b
  spelled (list p xs) ts s low high b =
      prefixed (list p xs) (parts_in_all false xs) (just_solid (kind.Operator sign.LeftBracket) refl)
      (but_last (exprs_at (parts_in_all false xs))
      (λ us r l h k. alone xs ⊤ (λ vs q i j g. items xs vs q i j g) us r l h k)) ts s low high b
  spelled (dict p es) ts s low high b =
      prefixed (dict p es) (parts_in_entries false es) (just_solid (kind.Operator sign.LeftBrace) refl)
      (but_last (exprs_at (parts_in_entries false es)) (λ us r l h k. entries es us r l h k)) ts s low high b
  spelled (negative p e) ts s low high b =
      prefixed (negative p e) (parts_in false e) (just_solid (kind.Operator sign.Minus) refl)
      (operand 6 (own_level e) (Spells e) (exprs_at (parts_in false e)) (λ us r l h k. spelled e us r l h k)) ts s low
      high b
  spelled (negation p e) ts s low high b =
      prefixed (negation p e) (parts_in false e) (just_solid (kind.Keyword word.Not) refl)
      (operand 2 (own_level e) (Spells e) (exprs_at (parts_in false e)) (λ us r l h k. spelled e us r l h k)) ts s low
      high b
  spelled (binary p o l r) ts s low high b =
      parted (binary p o l r) (parts_in false l) (parts_in false r)
      (operand (level_of o) (own_level l) (Spells l) (exprs_at (parts_in false l)) (λ us q i j k. spelled l us q i j k))
      (just_solid (kind.Operator (sign_of o)) refl)
      (operand (level_of o + 1) (own_level r) (Spells r) (exprs_at (parts_in false r))
      (λ us q i j k. spelled r us q i j k)) ts s low high b
  spelled (compare p o l r) ts s low high b =
      parted (compare p o l r) (parts_in false l) (parts_in false r)
      (operand 4 (own_level l) (Spells l) (exprs_at (parts_in false l)) (λ us q i j k. spelled l us q i j k))
      (comparison_solid o)
      (operand 4 (own_level r) (Spells r) (exprs_at (parts_in false r)) (λ us q i j k. spelled r us q i j k)) ts s low
      high b
  spelled (is_none p e) ts s low high b =
      suffixed (is_none p e) (parts_in false e)
      (operand 4 (own_level e) (Spells e) (exprs_at (parts_in false e)) (λ us r l h k. spelled e us r l h k))
      (first_solid (just_solid (kind.Keyword word.Is) refl)) ts s low high b
  spelled (is_not_none p e) ts s low high b =
      suffixed (is_not_none p e) (parts_in false e)
      (operand 4 (own_level e) (Spells e) (exprs_at (parts_in false e)) (λ us r l h k. spelled e us r l h k))
      (first_solid (just_solid (kind.Keyword word.Is) refl)) ts s low high b
  spelled (conjunction p l r) ts s low high b =
      parted (conjunction p l r) (parts_in false l) (parts_in false r)
      (operand 1 (own_level l) (Spells l) (exprs_at (parts_in false l)) (λ us q i j k. spelled l us q i j k))
      (just_solid (kind.Keyword word.And) refl)
      (operand 2 (own_level r) (Spells r) (exprs_at (parts_in false r)) (λ us q i j k. spelled r us q i j k)) ts s low
      high b
  spelled (disjunction p l r) ts s low high b =
      parted (disjunction p l r) (parts_in false l) (parts_in false r)
      (operand 0 (own_level l) (Spells l) (exprs_at (parts_in false l)) (λ us q i j k. spelled l us q i j k))
      (just_solid (kind.Keyword word.Or) refl)
      (operand 1 (own_level r) (Spells r) (exprs_at (parts_in false r)) (λ us q i j k. spelled r us q i j k)) ts s low
      high b
  spelled (attribute p e f) ts s low high b =
      suffixed (attribute p e f) (parts_in false e)
      (operand 7 (own_level e) (Spells e) (exprs_at (parts_in false e)) (λ us r l h k. spelled e us r l h k))
      (first_solid (just_solid (kind.Operator sign.Dot) refl)) ts s low high b
  spelled (index p e i) ts s low high b =
      parted (index p e i) (parts_in false e) (parts_in false i)
      (operand 7 (own_level e) (Spells e) (exprs_at (parts_in false e)) (λ us r l h k. spelled e us r l h k))
      (just_solid (kind.Operator sign.LeftBracket) refl)
      (but_last (exprs_at (parts_in false i)) (operand 0 (own_level i) (Spells i) (exprs_at (parts_in false i))
      (λ us r l h k. spelled i us r l h k))) ts s low high b
  spelled (call p e xs ks) ts s low high b =
      parted (call p e xs ks) (parts_in false e) (parts_in_all false xs ++ parts_in_keywords false ks)
      (operand 7 (own_level e) (Spells e) (exprs_at (parts_in false e)) (λ us r l h k. spelled e us r l h k))
      (just_solid (kind.Operator sign.LeftParenthesis) refl)
      (but_last (exprs_at (parts_in_all false xs ++ parts_in_keywords false ks))
      (joined (parts_in_all false xs) (parts_in_keywords false ks)
      (λ us r l h k. arguments xs ks (λ vs q i j g. keywords ks vs q i j g) us r l h k))) ts s low high b

  -- items
  items : (es : Exprs) → Holds (Items es Nothing ⊤) (λ p. exprs_at (parts_in_all false es) p + 0)
  items no_exprs ts s low high b = none_apart low high
  items (more_exprs x xs) ts s low high b =
      more_items x xs Nothing ⊤ (λ p. 0) (λ a p. refl) (λ us r l h k. spelled x us r l h k)
      (λ us r l h k. items xs us r l h k) ts s low high b

  -- items, and then arguments by keyword
  arguments : (es : Exprs) (ks : Keywords) → Holds (SpellsKeywords ks) (exprs_at (parts_in_keywords false ks))
      → Holds (Items es (SpellsKeywords ks) (ks ≡ no_keywords))
      (λ p. exprs_at (parts_in_all false es) p + exprs_at (parts_in_keywords false ks) p)
  arguments no_exprs ks f ts s low high b =
      let n = exprs_at (parts_in_keywords false ks) in
      same_apart n (λ p. 0 + n p) (λ p. none_more (n p)) (f ts s low high b)
  arguments (more_exprs x xs) ks f ts s low high b =
      more_items x xs (SpellsKeywords ks) (ks ≡ no_keywords) (exprs_at (parts_in_keywords false ks))
      (λ a p. no_keys ks a p) (λ us r l h k. spelled x us r l h k) (λ us r l h k. arguments xs ks f us r l h k) ts s low
      high b

  entries : (es : Entries) → Holds (SpellsEntries es) (exprs_at (parts_in_entries false es))
  entries no_entries ts s low high b = none_apart low high
  entries (more_entries x y es) ts s low high b =
      both (parts_in false x) (parts_in false y ++ parts_in_entries false es)
      (operand 0 (own_level x) (Spells x) (exprs_at (parts_in false x)) (λ us r l h k. spelled x us r l h k))
      (but_first (exprs_at (parts_in false y ++ parts_in_entries false es))
      (both (parts_in false y) (parts_in_entries false es)
      (operand 0 (own_level y) (Spells y) (exprs_at (parts_in false y)) (λ us r l h k. spelled y us r l h k))
      (after_comma (exprs_at (parts_in_entries false es)) (λ us r l h k. entries es us r l h k)
      (λ e p. no_more_entries es e p)))) ts s low high b

  keywords : (es : Keywords) → Holds (SpellsKeywords es) (exprs_at (parts_in_keywords false es))
  keywords no_keywords ts s low high b = none_apart low high
  keywords (more_keywords n e es) ts s low high b =
      but_first (exprs_at (parts_in false e ++ parts_in_keywords false es))
      (but_first (exprs_at (parts_in false e ++ parts_in_keywords false es))
      (both (parts_in false e) (parts_in_keywords false es)
      (operand 0 (own_level e) (Spells e) (exprs_at (parts_in false e)) (λ us r l h k. spelled e us r l h k))
      (after_comma (exprs_at (parts_in_keywords false es)) (λ us r l h k. keywords es us r l h k)
      (λ e p. no_keys es e p)))) ts s low high b

-- a whole expression
pub expression : (e : Expr) → Holds (Expression e) (exprs_at (parts_in false e))
expression e = operand 0 (own_level e) (Spells e) (exprs_at (parts_in false e)) (spelled e)
