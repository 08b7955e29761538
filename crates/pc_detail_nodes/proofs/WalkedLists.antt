-- Lists that grow by what a walk adds, one part after another.
use Rattle.std.proofs.Common.{◌≡◌, ◌∙◌, ◌<◌, ◌+◌, ◌++◌, ◌∷◌, [], ℕ, List, map, take, drop, length, get_or, refl, sym, ap}
use Rattle.std.proofs.Common.{append_assoc}
use Rattle.std.proofs.lemmas.List.{append-nil, map-append, take_more}
use Rattle.std.proofs.lemmas.Grind.{flat_map-append}
use Rattle.std.specs.Prelude.{false, flat_map}
use Rattle.pc_tree.specs.Suites.{branches_of_stmt, last_suite}
use Rattle.pc_tree.specs.Tree.{Expr, name, number, text, truth, nothing, tuple, list, dict, negative, negation, binary}
use Rattle.pc_tree.specs.Tree.{compare, is_none, is_not_none, conjunction, disjunction, attribute, index, call, Stmt}
use Rattle.pc_tree.specs.Tree.{pass, breaks, continues, returns, asserts, annotated, assigns, evaluates, while_loop}
use Rattle.pc_tree.specs.Tree.{for_loop, conditional}
use Rattle.pc_scope.specs.Expressions.{exprs_in, exprs_in_all, exprs_in_branches, option_exprs, parts_in, target_exprs}
use Rattle.pc_detail_rules.specs.Nodes.{stmts_in}
use Rattle.pc_detail_nodes.specs.NodesHeld.{own_exprs, parts_inside, stmts_below}

module _ {X : Type 0} (old mid : List X) where
  -- a part after another
  pub then_parts : (a b : List X) → mid ≡ old ++ a → mid ++ b ≡ old ++ (a ++ b)
  then_parts a b h = ap (λ (xs : List X). xs ++ b) h ∙ append_assoc old a b

  -- likewise, with both parts in one
  pub then_rest : (a b all : List X) → all ≡ a ++ b → mid ≡ old ++ a → mid ++ b ≡ old ++ all
  then_rest a b all same h = then_parts a b h ∙ ap (λ (xs : List X). old ++ xs) (sym same)

  -- two parts after another
  pub then_two : (new a b c : List X) → mid ≡ old ++ a → new ≡ mid ++ b → new ++ c ≡ old ++ (a ++ (b ++ c))
  then_two new a b c h k = ap (λ (xs : List X). xs ++ c) k ∙ append_assoc mid b c
      ∙ ap (λ (xs : List X). xs ++ (b ++ c)) h ∙ append_assoc old a (b ++ c)

-- what borrowed items give, one item more
pub gives_more : {R X Y : Type 0} (h : R → X) (g : X → List Y) (xs : List R) (i : ℕ) (x : R) → i < length xs
    → x ≡ get_or xs i x → flat_map g (map h (take (i + 1) xs)) ≡ flat_map g (map h (take i xs)) ++ g (h x)
gives_more h g xs i x lt e =
    ap (λ ys. flat_map g (map h ys)) (take_more xs i x lt ∙ ap (λ y. take i xs ++ y ∷ []) (sym e))
    ∙ ap (flat_map g) (map-append h (take i xs) (x ∷ []))
    ∙ flat_map-append g (map h (take i xs)) (h x ∷ [])
    ∙ ap (λ ys. flat_map g (map h (take i xs)) ++ ys) (append-nil (g (h x)))

-- borrowed items, one item more
pub shown_more : {R X : Type 0} (h : R → X) (xs : List R) (i : ℕ) (x : R) → i < length xs → x ≡ get_or xs i x
    → map h (take (i + 1) xs) ≡ map h (take i xs) ++ h x ∷ []
shown_more h xs i x lt e = ap (map h) (take_more xs i x lt ∙ ap (λ y. take i xs ++ y ∷ []) (sym e))
    ∙ map-append h (take i xs) (x ∷ [])

-- ---- an expression or a statement, and what is in it

-- an expression, and its parts
pub parts_of_expr : (e : Expr) → parts_in false e ≡ e ∷ parts_inside e
parts_of_expr (name n) = refl
parts_of_expr (number p digits) = refl
parts_of_expr (text p characters) = refl
parts_of_expr (truth p value) = refl
parts_of_expr (nothing p) = refl
parts_of_expr (tuple p items) = refl
parts_of_expr (list p items) = refl
parts_of_expr (dict p entries) = refl
parts_of_expr (negative p e) = refl
parts_of_expr (negation p e) = refl
parts_of_expr (binary p operator l r) = refl
parts_of_expr (compare p operator l r) = refl
parts_of_expr (is_none p e) = refl
parts_of_expr (is_not_none p e) = refl
parts_of_expr (conjunction p l r) = refl
parts_of_expr (disjunction p l r) = refl
parts_of_expr (attribute p e field) = refl
parts_of_expr (index p e i) = refl
parts_of_expr (call p callee arguments keywords) = refl

-- the expressions of a statement: its own, those of its branches, and those of its last suite
pub exprs_of_stmt : (s : Stmt) → exprs_in false s ≡ own_exprs s
    ++ (exprs_in_branches false (branches_of_stmt s) ++ exprs_in_all false (last_suite s))
exprs_of_stmt (pass p) = refl
exprs_of_stmt (breaks p) = refl
exprs_of_stmt (continues p) = refl
exprs_of_stmt (returns p value) = sym (append-nil (option_exprs value))
exprs_of_stmt (asserts p condition message) = ap (λ es. condition ∷ es) (sym (append-nil (option_exprs message)))
exprs_of_stmt (annotated p n a value) = sym (append-nil (option_exprs value))
exprs_of_stmt (assigns p target value) = ap (λ es. value ∷ es) (sym (append-nil (target_exprs target)))
exprs_of_stmt (evaluates p value) = refl
exprs_of_stmt (while_loop p condition body) = refl
exprs_of_stmt (for_loop p n iterable body) = refl
exprs_of_stmt (conditional p bs otherwise) = refl

-- a statement, and those in its suites
pub stmts_of_stmt : (s : Stmt) → stmts_in s ≡ s ∷ stmts_below s
stmts_of_stmt (pass p) = refl
stmts_of_stmt (breaks p) = refl
stmts_of_stmt (continues p) = refl
stmts_of_stmt (returns p value) = refl
stmts_of_stmt (asserts p condition message) = refl
stmts_of_stmt (annotated p n a value) = refl
stmts_of_stmt (assigns p target value) = refl
stmts_of_stmt (evaluates p value) = refl
stmts_of_stmt (while_loop p condition body) = refl
stmts_of_stmt (for_loop p n iterable body) = refl
stmts_of_stmt (conditional p bs otherwise) = refl
