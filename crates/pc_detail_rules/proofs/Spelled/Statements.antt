-- The expressions of statements that tokens in order spell have places of their own.
use Rattle.std.proofs.Common.{◌≡◌, ◌+◌, ℕ, List, [], ◌∷◌, ◌++◌, false, refl, sym}
use Rattle.std.proofs.Common.{ap, ◌∙◌, inl, inr, arith}
use Rattle.std.proofs.lemmas.Grind.{flat_map-append}
use Rattle.std.specs.Prelude.{flat_map, Option, Some, None}
use Rattle.pc_source.specs.declared.place.Place.{Place}
use Rattle.pc_token.specs.declared.token.TokenKind.TheVariants as kind
use Rattle.pc_token.specs.declared.token.Operator.TheVariants as sign
use Rattle.pc_tree.specs.Depth.{place_of}
use Rattle.pc_tree.specs.Tree.{Expr, attribute, index, Target, to_name, to_attribute, to_index, Stmt, Stmts, Branches}
use Rattle.pc_tree.specs.Tree.{pass, breaks, continues, returns, asserts, annotated, assigns, evaluates, while_loop}
use Rattle.pc_tree.specs.Tree.{for_loop, conditional, no_stmts, more_stmts, no_branches, more_branches}
use Rattle.pc_scope.specs.Expressions.{parts_in, option_exprs, target_exprs, exprs_in, exprs_in_all, exprs_in_branches}
use Rattle.pc_grammar.specs.Grammar.{Spelling, ◌⟫◌, Maybe, Rest, Just, Sign}
use Rattle.pc_grammar.specs.Grammar.Expressions.{SpellsTarget, Expression}
use Rattle.pc_grammar.specs.Grammar.Statements.{Suite, SpellsStmt, SpellsStmts, SpellsBranches}
use Rattle.pc_detail_rules.proofs.Spelled.Between.{none_apart, same_apart}
use Rattle.pc_detail_rules.proofs.Spelled.Counted.{at_append, others}
use Rattle.pc_detail_rules.proofs.Spelled.Expressions.{exprs_at, Holds, but_first, but_last, in_turn, counted_as}
use Rattle.pc_detail_rules.proofs.Spelled.Expressions.{spelled, expression}

-- how many of these expressions and their parts are at a place
abbrev pub all_at : List Expr → Place → ℕ
all_at es = exprs_at (flat_map (parts_in false) es)

pub all_append : (xs ys : List Expr) (p : Place) → all_at (xs ++ ys) p ≡ all_at xs p + all_at ys p
all_append xs ys p = ap (λ (es : List Expr). exprs_at es p) (flat_map-append (parts_in false) xs ys)
    ∙ at_append place_of (flat_map (parts_in false) xs) (flat_map (parts_in false) ys) p

pub all_more : (x : Expr) (xs : List Expr) (p : Place)
    → all_at (x ∷ xs) p ≡ exprs_at (parts_in false x) p + all_at xs p
all_more x xs p = at_append place_of (parts_in false x) (flat_map (parts_in false) xs) p

-- one expression, and an expression and others
all_one : (x : Expr) (p : Place) → exprs_at (parts_in false x) p ≡ all_at (x ∷ []) p
all_one x p = let e = all_more x [] p in omega (arith, e)

lone : {A : Spelling} (x : Expr) → Holds A (exprs_at (parts_in false x)) → Holds A (all_at (x ∷ []))
lone x f = counted_as (exprs_at (parts_in false x)) (all_at (x ∷ [])) (λ p. all_one x p) f

leading : {A B : Spelling} (x : Expr) (xs : List Expr) → Holds A (exprs_at (parts_in false x)) → Holds B (all_at xs)
    → Holds (A ⟫ B) (all_at (x ∷ xs))
leading x xs f g = counted_as (λ p. exprs_at (parts_in false x) p + all_at xs p) (all_at (x ∷ xs))
    (λ p. sym (all_more x xs p)) (in_turn (exprs_at (parts_in false x)) (all_at xs) f g)

both_lists : {A B : Spelling} (xs ys : List Expr) → Holds A (all_at xs) → Holds B (all_at ys)
    → Holds (A ⟫ B) (all_at (xs ++ ys))
both_lists xs ys f g = counted_as (λ p. all_at xs p + all_at ys p) (all_at (xs ++ ys))
    (λ p. sym (all_append xs ys p)) (in_turn (all_at xs) (all_at ys) f g)

-- an expression that may be missing
optional : (A : Expr → Spelling) (value : Option Expr) → ((e : Expr) → Holds (A e) (exprs_at (parts_in false e)))
    → Holds (Maybe A value) (all_at (option_exprs value))
optional A None f ts s low high b = none_apart low high
optional A (Some e) f ts s low high b = lone e (f e) ts s low high b

-- what may be missing if nothing more may follow
rest_of : {last : Type 0} {A : Spelling} (n : Place → ℕ) → Holds A n → (last → (p : Place) → 0 ≡ n p)
    → Holds (Rest last A) n
rest_of n f none ts s low high b = elim s [
  | inl a ↦ f ts a low high b
  | inr z ↦ same_apart (λ p. 0) n (none z.0) (none_apart low high)
]

-- a suite
pub suite : {A : Spelling} (n : Place → ℕ) → Holds A n → Holds (Suite A) n
suite n f = but_first n (but_first n (but_first n (but_last n f)))

-- the expressions in a target
target : (t : Target) → Holds (SpellsTarget t) (all_at (target_exprs t))
target (to_name n) ts s low high b = none_apart low high
target (to_attribute p e f) ts s low high b =
    let whole = spelled (attribute p e f) ts s low high b in
    same_apart (exprs_at (parts_in false e)) (all_at (e ∷ [])) (λ q. all_one e q)
    (others place_of (attribute p e f) (parts_in false e) whole)
target (to_index p e i) ts s low high b =
    let whole = spelled (index p e i) ts s low high b in
    same_apart (exprs_at (parts_in false e ++ parts_in false i)) (all_at (e ∷ i ∷ [])) (λ q. two q)
    (others place_of (index p e i) (parts_in false e ++ parts_in false i) whole)
  where
    two : (q : Place) → exprs_at (parts_in false e ++ parts_in false i) q ≡ all_at (e ∷ i ∷ []) q
    two q = let x = at_append place_of (parts_in false e) (parts_in false i) q in
        let y = all_more e (i ∷ []) q in
        let z = all_one i q in
        omega (arith, x, y, z)

-- a target and then a value, which is first among the expressions
assigned : (t : Target) (value : Expr) (B : Spelling) → Holds B (exprs_at (parts_in false value))
    → Holds (SpellsTarget t ⟫ B) (all_at (value ∷ target_exprs t))
assigned t value B f = counted_as (λ p. all_at (target_exprs t) p + exprs_at (parts_in false value) p)
    (all_at (value ∷ target_exprs t))
    (λ p. let e = all_more value (target_exprs t) p in omega (arith, e))
    (in_turn (all_at (target_exprs t)) (exprs_at (parts_in false value)) (target t) f)

no_statements : (s : Stmts) → s ≡ no_stmts → (p : Place) → 0 ≡ all_at (exprs_in_all false s) p
no_statements no_stmts e p = refl
no_statements (more_stmts s rest) e p = absurd (cc e)

-- the expressions of a first condition, its suite, further branches, and the statements otherwise
of_branches : (x : Expr) (b r o : List Expr) (p : Place)
    → exprs_at (parts_in false x) p + (all_at b p + (all_at r p + all_at o p)) ≡ all_at (x ∷ ((b ++ r) ++ o)) p
of_branches x b r o p =
    let i = all_more x ((b ++ r) ++ o) p in
    let j = all_append (b ++ r) o p in
    let k = all_append b r p in
    omega (arith, i, j, k)

mutual
  pub statement : (s : Stmt) → Holds (SpellsStmt s) (all_at (exprs_in false s))
  statement (pass p) ts s low high b = none_apart low high
  statement (breaks p) ts s low high b = none_apart low high
  statement (continues p) ts s low high b = none_apart low high
  statement (returns p value) ts s low high b =
      let n = all_at (option_exprs value) in
      but_first n (but_last n (optional Expression value expression)) ts s.1 low high b
  statement (asserts p condition message) ts s low high b =
      but_first (all_at (condition ∷ option_exprs message))
      (leading condition (option_exprs message) (expression condition)
      (but_last (all_at (option_exprs message))
      (optional (λ e. Sign sign.Comma ⟫ Expression e) message
      (λ e. but_first (exprs_at (parts_in false e)) (expression e))))) ts s.1 low high b
  statement (annotated p n a value) ts s low high b =
      let k = all_at (option_exprs value) in
      but_first k (but_first k (but_first k (but_last k
      (optional (λ e. Sign sign.Equal ⟫ Expression e) value
      (λ e. but_first (exprs_at (parts_in false e)) (expression e)))))) ts s.1 low high b
  statement (assigns p t value) ts s low high b =
      let n = exprs_at (parts_in false value) in
      assigned t value (Sign sign.Equal ⟫ Expression value ⟫ Just kind.Newline)
      (but_first n (but_last n (expression value))) ts s.1 low high b
  statement (evaluates p value) ts s low high b =
      but_last (all_at (value ∷ [])) (lone value (expression value)) ts s.1 low high b
  statement (while_loop p condition body) ts s low high b =
      let inner = all_at (exprs_in_all false body) in
      but_first (all_at (condition ∷ exprs_in_all false body))
      (leading condition (exprs_in_all false body) (expression condition)
      (suite inner (λ us r l h k. statements body us r l h k))) ts s.1 low high b
  statement (for_loop p n iterable body) ts s low high b =
      let inner = all_at (exprs_in_all false body) in
      let all = all_at (iterable ∷ exprs_in_all false body) in
      but_first all (but_first all (but_first all
      (leading iterable (exprs_in_all false body) (expression iterable)
      (suite inner (λ us r l h k. statements body us r l h k))))) ts s.1 low high b
  statement (conditional p no_branches otherwise) ts s low high b = absurd s
  statement (conditional p (more_branches condition body rest) otherwise) ts s low high b =
      let first = exprs_at (parts_in false condition) in
      let inner = all_at (exprs_in_all false body) in
      let further = all_at (exprs_in_branches false rest) in
      let last = all_at (exprs_in_all false otherwise) in
      let after : Place → ℕ = λ q. further q + last q in
      let behind : Place → ℕ = λ q. inner q + after q in
      let all : Place → ℕ = λ q. first q + behind q in
      same_apart all (all_at (exprs_in false (conditional p (more_branches condition body rest) otherwise)))
      (λ q. of_branches condition (exprs_in_all false body) (exprs_in_branches false rest)
      (exprs_in_all false otherwise) q)
      (but_first all (in_turn first behind (expression condition)
      (in_turn inner after (suite inner (λ us r l h k. statements body us r l h k))
      (in_turn further last (λ us r l h k. branches rest us r l h k)
      (rest_of last (but_first last (suite last (λ us r l h k. statements otherwise us r l h k)))
      (λ e q. no_statements otherwise e q))))) ts s.1 low high b)

  pub statements : (s : Stmts) → Holds (SpellsStmts s) (all_at (exprs_in_all false s))
  statements no_stmts ts s low high b = absurd s
  statements (more_stmts x rest) ts s low high b =
      both_lists (exprs_in false x) (exprs_in_all false rest) (λ us r l h k. statement x us r l h k)
      (rest_of (all_at (exprs_in_all false rest)) (λ us r l h k. statements rest us r l h k)
      (λ e q. no_statements rest e q)) ts s low high b

  branches : (bs : Branches) → Holds (SpellsBranches bs) (all_at (exprs_in_branches false bs))
  branches no_branches ts s low high b = none_apart low high
  branches (more_branches condition body rest) ts s low high b =
      but_first (all_at (exprs_in_branches false (more_branches condition body rest)))
      (leading condition (exprs_in_all false body ++ exprs_in_branches false rest) (expression condition)
      (both_lists (exprs_in_all false body) (exprs_in_branches false rest)
      (suite (all_at (exprs_in_all false body)) (λ us r l h k. statements body us r l h k))
      (λ us r l h k. branches rest us r l h k))) ts s low high b
