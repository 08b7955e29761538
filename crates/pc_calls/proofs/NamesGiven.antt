-- The names that a call gives, each once, as a set has them, and how many arguments it gives by position.
use Rattle.std.proofs.Common.{◌≡◌, ◌<◌, ◌≤◌, ◌+◌, ℕ, suc, List, [], ◌∷◌, ◌++◌, map, drop, length, get_or, Bool as Test}
use Rattle.std.proofs.Common.{true, false, refl, sym, ap, ◌∙◌, append_assoc, append-nil}
use Rattle.std.proofs.lemmas.List.{drop_all}
use Rattle.std.specs.Prelude.{◌||◌, if◌then◌else◌, bytes_eq}
use Rattle.std.specs.List.{list_any}
use Rattle.std.specs.Borrow.{Bor}
use Rattle.pc_tree.specs.declared.tree.Expr.{Expr as RustExpr}
use Rattle.pc_tree.specs.declared.tree.KeywordArgument.{KeywordArgument as RustKeyword}
use Rattle.pc_tree.specs.Tree.{Name, name_of}
use Rattle.pc_tree.specs.Lists.{exprs_of_list, keywords_of_list}
use Rattle.pc_tree.proofs.Stops.{cons_at}
use Rattle.pc_scope.specs.Resolution.{is_one_of}
use Rattle.pc_scope.specs.Expressions.{keyword_names}
use Rattle.pc_scope.proofs.TextSets.{among}
use Rattle.pc_rules.specs.Calls.{GivenArguments, count_exprs, once_each}

pub expr_count : (es : List RustExpr) → count_exprs (exprs_of_list es) ≡ length es
expr_count [] = refl
expr_count (e ∷ es) = ap suc (expr_count es)

-- the same names, in any order
abbrev pub SameNames : List (List ℕ) → List (List ℕ) → Type 0
SameNames b c = (t : List ℕ) → is_one_of t b ≡ is_one_of t c

pub once_same : (b c : List (List ℕ)) → SameNames b c → (ns : List Name) → once_each b ns ≡ once_each c ns
once_same b c s [] = refl
once_same b c s (n ∷ ns) = go (is_one_of n.text b) (is_one_of n.text c) (s n.text) (once_same b c s ns)
    (once_same (n.text ∷ b) (n.text ∷ c) (λ u. ap (λ a. bytes_eq u n.text || a) (s u)) ns)
  where
    go : (x y : Test) → x ≡ y → once_each b ns ≡ once_each c ns → once_each (n.text ∷ b) ns ≡ once_each (n.text ∷ c) ns
        → (if x then once_each b ns else n.text ∷ once_each (n.text ∷ b) ns)
        ≡ (if y then once_each c ns else n.text ∷ once_each (n.text ∷ c) ns)
    go true true e f g = f
    go false false e f g = ap (λ (l : List (List ℕ)). n.text ∷ l) g
    go true false e f g = cc
    go false true e f g = cc

pub among_behind : (u : List ℕ) (names : List (List ℕ)) → SameNames (names ++ u ∷ []) (u ∷ names)
among_behind u [] t = refl
among_behind u (n ∷ ns) t = ap (λ b. bytes_eq t n || b) (among_behind u ns t)
    ∙ turn (bytes_eq t n) (bytes_eq t u) (is_one_of t ns)
  where
    turn : (a b c : Test) → (a || (b || c)) ≡ (b || (a || c))
    turn true true c = refl
    turn true false c = refl
    turn false b c = refl

-- names with one more, if it is new
abbrev pub with_name : List (List ℕ) → List ℕ → List (List ℕ)
with_name names t = if is_one_of t names then names else names ++ t ∷ []

pub name_inserted : (ks : List (Bor (List ℕ))) (k : Bor (List ℕ))
    → map (λ x. x.now) (if list_any (λ x. bytes_eq k.now x.now) ks then ks else ks ++ k ∷ [])
    ≡ with_name (map (λ x. x.now) ks) k.now
name_inserted ks k = go (list_any (λ x. bytes_eq k.now x.now) ks) (is_one_of k.now (map (λ x. x.now) ks))
    (among (λ x. x.now) k.now ks)
  where
    behind : (xs : List (Bor (List ℕ))) → map (λ x. x.now) (xs ++ k ∷ []) ≡ map (λ x. x.now) xs ++ k.now ∷ []
    behind [] = refl
    behind (x ∷ xs) = ap (λ (l : List (List ℕ)). x.now ∷ l) (behind xs)

    go : (a b : Test) → a ≡ b → map (λ x. x.now) (if a then ks else ks ++ k ∷ [])
        ≡ (if b then map (λ x. x.now) ks else map (λ x. x.now) ks ++ k.now ∷ [])
    go true true e = refl
    go false false e = behind ks
    go true false e = cc
    go false true e = cc

each_more : (names : List (List ℕ)) (n : Name) (ns : List Name)
    → with_name names n.text ++ once_each (with_name names n.text) ns ≡ names ++ once_each names (n ∷ ns)
each_more names n ns = go (is_one_of n.text names)
  where
    go : (b : Test) → (if b then names else names ++ n.text ∷ [])
        ++ once_each (if b then names else names ++ n.text ∷ []) ns ≡ names
        ++ (if b then once_each names ns else n.text ∷ once_each (n.text ∷ names) ns)
    go true = refl
    go false = append_assoc names (n.text ∷ []) (once_each (names ++ n.text ∷ []) ns)
        ∙ ap (λ (l : List (List ℕ)). names ++ n.text ∷ l) (once_same (names ++ n.text ∷ []) (n.text ∷ names)
        (among_behind n.text names) ns)

-- one more argument by name
pub keyword_more : (names new total : List (List ℕ)) (ks : List RustKeyword) (i : ℕ) (x : RustKeyword) → i < length ks
    → x ≡ get_or ks i x
    → names ++ once_each names (keyword_names (keywords_of_list (drop i ks))) ≡ total
    → new ≡ with_name names (name_of x.name).text
    → new ++ once_each new (keyword_names (keywords_of_list (drop (i + 1) ks))) ≡ total
keyword_more names new total ks i x less is inv e =
    ap (λ (b : List (List ℕ)). b ++ once_each b (keyword_names (keywords_of_list (drop (i + 1) ks)))) e
    ∙ each_more names (name_of x.name) (keyword_names (keywords_of_list (drop (i + 1) ks)))
    ∙ ap (λ (ys : List RustKeyword). names ++ once_each names (keyword_names (keywords_of_list ys)))
    (sym (cons_at ks i x less is))
    ∙ inv

-- no more of them
pub keywords_done : (names total : List (List ℕ)) (ks : List RustKeyword) (i : ℕ) → length ks ≤ i
    → names ++ once_each names (keyword_names (keywords_of_list (drop i ks))) ≡ total → names ≡ total
keywords_done names total ks i h inv = sym (append-nil names)
    ∙ ap (λ (ys : List RustKeyword). names ++ once_each names (keyword_names (keywords_of_list ys)))
    (sym (drop_all i ks h)) ∙ inv

pub given_both : (n : ℕ) (names : List (List ℕ)) (m : ℕ) (others : List (List ℕ)) → n ≡ m → names ≡ others
    → (let g : GivenArguments = record { positional = n; named = names } in g)
    ≡ (let h : GivenArguments = record { positional = m; named = others } in h)
given_both n names m others e f = ap (λ k. let g : GivenArguments = record { positional = k; named = names } in g) e
    ∙ ap (λ l. let g : GivenArguments = record { positional = m; named = l } in g) f
