-- One more item of several: their types and the notes in them, from one item to the next.
use Rattle.std.proofs.Common.{◌≡◌, ◌<◌, ◌+◌, ℕ, zero, suc, List, [], ◌∷◌, ◌++◌, refl, sym, ap, ◌∙◌, map, length, drop}
use Rattle.std.proofs.Common.{get_or, append_assoc, Option, arith}
use Rattle.std.proofs.lemmas.List.{map_push, append-nil, drop_all}
use Rattle.std.proofs.lemmas.Bool.Decides.{nat_tests}
use Rattle.std.specs.Prelude.{Bool as Test, true, false, ◌||◌, ◌&&◌, nat_eq, ◌≤◌}
use Rattle.pc_tree.specs.declared.code.Code.{Code}
use Rattle.pc_tree.specs.declared.tree.Expr.{Expr as RustExpr}
use Rattle.pc_tree.specs.Tree.{Expr, Exprs, no_exprs, more_exprs, expr_of}
use Rattle.pc_tree.specs.Depth.{place_of}
use Rattle.pc_tree.specs.Lists.{exprs_of_list}
use Rattle.pc_tree.proofs.Stops.{cons_at}
use Rattle.pc_types.specs.Tree.{Tree}
use Rattle.pc_notes.specs.Notes.{Note}
use Rattle.pc_rules.specs.Context.{is_early}
use Rattle.pc_rules.specs.Calls.{Seat}
use Rattle.pc_rules.specs.Computed.Expressions.{flows_of}
use Rattle.pc_rules.specs.Computed.Findings.{brief, once, flows_at}
use Rattle.pc_rules.specs.declared.label.Label.{Label as RustLabel}
use Rattle.pc_rules.proofs.TypingStates.{in_turn}
use Rattle.pc_expr.proofs.Typed.{type_is}
use Rattle.pc_rules.specs.Computed.Standing.{Standing, label_with, label_in, finds_in, types_in, items_find}
use Rattle.pc_expr.specs.Typing.{second_is_early}
use Rattle.pc_rules.proofs.Once.{once_early}
use Rattle.pc_expr.proofs.Forms.{types_none, types_more, items_none, items_more, early_none, early_one, early_two}

-- the seats from a position on
abbrev pub seats_from : ℕ → (ℕ → Seat) → ℕ → Seat
seats_from zero seat = seat
seats_from (suc n) seat = seats_from n (λ i. seat (suc i))

seat_first : (n : ℕ) (seat : ℕ → Seat) → seats_from n seat 0 ≡ seat n
seat_first zero seat = refl
seat_first (suc n) seat = seat_first n (λ i. seat (suc i))

seats_next : (n : ℕ) (seat : ℕ → Seat) → (λ i. seats_from n seat (suc i)) ≡ seats_from (suc n) seat
seats_next zero seat = refl
seats_next (suc n) seat = seats_next n (λ i. seat (suc i))

seats_further : (n : ℕ) (seat : ℕ → Seat) → (λ i. seats_from n seat (suc i)) ≡ seats_from (n + 1) seat
seats_further n seat = let e : suc n ≡ n + 1 = omega arith in seats_next n seat ∙ ap (λ j. seats_from j seat) e

module _ (k : Standing) (seat : ℕ → Seat) (items : List RustExpr) (i : ℕ) where
  -- the types of the items from a position on, and what is found in them
  abbrev pub types_from : List Tree
  types_from = types_in k (seats_from i seat) (exprs_of_list (drop i items))

  abbrev pub finds_from : List Note
  finds_from = items_find k (seats_from i seat) (exprs_of_list (drop i items))

module _ (k : Standing) (seat : ℕ → Seat) (items : List RustExpr) (i : ℕ) (e : RustExpr) (lt : i < length items)
    (is : e ≡ get_or items i e) where
  types_at : types_from k seat items i ≡ (label_in k (seat i).want (expr_of e)).type ∷ types_from k seat items (i + 1)
  types_at =
      ap (λ es. types_in k (seats_from i seat) (exprs_of_list es)) (cons_at items i e lt is)
      ∙ types_more k (seats_from i seat) (expr_of e) (exprs_of_list (drop (i + 1) items))
      ∙ ap (λ (s : Seat). (label_in k s.want (expr_of e)).type ∷ types_in k (λ j. seats_from i seat (suc j))
      (exprs_of_list (drop (i + 1) items))) (seat_first i seat)
      ∙ ap (λ (f : ℕ → Seat). (label_in k (seat i).want (expr_of e)).type ∷ types_in k f
      (exprs_of_list (drop (i + 1) items))) (seats_further i seat)

  finds_at : finds_from k seat items i ≡ finds_in k (seat i).want (expr_of e)
      ++ (flows_at (place_of (expr_of e)) (flows_of k.context.bases (label_in k (seat i).want (expr_of e))
      (seat i).into) ++ finds_from k seat items (i + 1))
  finds_at =
      ap (λ es. items_find k (seats_from i seat) (exprs_of_list es)) (cons_at items i e lt is)
      ∙ items_more k (seats_from i seat) (expr_of e) (exprs_of_list (drop (i + 1) items))
      ∙ ap (λ (s : Seat). finds_in k s.want (expr_of e) ++ (flows_at (place_of (expr_of e))
      (flows_of k.context.bases (label_in k s.want (expr_of e)) s.into) ++ items_find k
      (λ j. seats_from i seat (suc j)) (exprs_of_list (drop (i + 1) items)))) (seat_first i seat)
      ∙ ap (λ (f : ℕ → Seat). finds_in k (seat i).want (expr_of e)
      ++ (flows_at (place_of (expr_of e)) (flows_of k.context.bases (label_in k (seat i).want (expr_of e))
      (seat i).into) ++ items_find k f (exprs_of_list (drop (i + 1) items)))) (seats_further i seat)

  -- an item further: the types so far
  pub types_step : {T : Type 0} (tree : T → Tree) (out : List T) (t : T) (all : List Tree)
      → tree t ≡ (label_in k (seat i).want (expr_of e)).type →
      map tree out ++ types_from k seat items i ≡ all → map tree (out ++ t ∷ []) ++ types_from k seat items (i + 1)
      ≡ all
  types_step tree out t all q h =
      ap (λ l. l ++ types_from k seat items (i + 1)) (map_push tree out t)
      ∙ append_assoc (map tree out) (tree t ∷ []) (types_from k seat items (i + 1))
      ∙ ap (λ x. map tree out ++ x ∷ types_from k seat items (i + 1)) q
      ∙ ap (λ l. map tree out ++ l) (sym types_at)
      ∙ h

  -- and what is found so far
  pub finds_step : (old new last all : List Note) → new ≡ old ++ finds_in k (seat i).want (expr_of e)
      → last ≡ new ++ flows_at (place_of (expr_of e)) (flows_of k.context.bases (label_in k (seat i).want (expr_of e))
      (seat i).into) →
      old ++ finds_from k seat items i ≡ all → last ++ finds_from k seat items (i + 1) ≡ all
  finds_step old new last all n l h =
      let a = finds_in k (seat i).want (expr_of e) in
      let b = flows_at (place_of (expr_of e)) (flows_of k.context.bases (label_in k (seat i).want (expr_of e))
      (seat i).into) in
      let c = finds_from k seat items (i + 1) in
      ap (λ x. x ++ c) (l ∙ ap (λ x. x ++ b) n)
      ∙ append_assoc (old ++ a) b c
      ∙ append_assoc old a (b ++ c)
      ∙ ap (λ x. old ++ x) (sym finds_at)
      ∙ h

-- ---- an item with its seat

module _ (k : Standing) (seat : ℕ → Seat) (items : List RustExpr) (i : ℕ) (e : RustExpr) (lt : i < length items)
    (is : e ≡ get_or items i e) (w : Option Tree) (wants : w ≡ (seat i).want) where
  pub seated_types : {T : Type 0} (tree : T → Tree) (out : List T) (l : RustLabel T) (all : List Tree)
      → label_with tree l ≡ brief (label_in k w (expr_of e)) →
      map tree out ++ types_from k seat items i ≡ all → map tree (out ++ l.ty ∷ []) ++ types_from k seat items (i + 1)
      ≡ all
  seated_types tree out l all m h = types_step k seat items i e lt is tree out l.ty all
      (type_is tree l (label_in k w (expr_of e)) m ∙ ap (λ x. (label_in k x (expr_of e)).type) wants) h

  pub seated_finds : (ts : List Tree) → ts ≡ (seat i).into → (old last all : List Note) →
      last ≡ old ++ (finds_in k w (expr_of e) ++ flows_at (place_of (expr_of e))
      (flows_of k.context.bases (label_in k w (expr_of e)) ts)) →
      old ++ finds_from k seat items i ≡ all → last ++ finds_from k seat items (i + 1) ≡ all
  seated_finds ts into old last all l h =
      let p = place_of (expr_of e) in
      let finds = finds_in k w (expr_of e) in
      let flows = flows_at p (flows_of k.context.bases (label_in k w (expr_of e)) ts) in
      let new = old ++ finds in
      finds_step k seat items i e lt is old new last all (ap (λ x. old ++ finds_in k x (expr_of e)) wants)
      (in_turn old finds flows last l
      ∙ ap (λ x. new ++ flows_at p (flows_of k.context.bases (label_in k x (expr_of e)) ts)) wants
      ∙ ap (λ y. new ++ flows_at p (flows_of k.context.bases (label_in k (seat i).want (expr_of e)) y)) into) h

-- ---- the end

module _ (k : Standing) (seat : ℕ → Seat) (items : List RustExpr) (i : ℕ) (le : length items ≤ i) where
  pub types_end : (out all : List Tree) → out ++ types_from k seat items i ≡ all → out ≡ all
  types_end out all h = sym (append-nil out) ∙ ap (λ l. out ++ l)
      (sym (ap (λ es. types_in k (seats_from i seat) (exprs_of_list es)) (drop_all i items le)
      ∙ types_none k (seats_from i seat))) ∙ h

  pub finds_end : (out all : List Note) → out ++ finds_from k seat items i ≡ all → out ≡ all
  finds_end out all h = sym (append-nil out) ∙ ap (λ l. out ++ l)
      (sym (ap (λ es. items_find k (seats_from i seat) (exprs_of_list es)) (drop_all i items le)
      ∙ items_none k (seats_from i seat))) ∙ h

-- ---- a second item that stands too early

-- whether the first of several stands too early
abbrev first_early : Standing → (ℕ → Seat) → Exprs → Test
first_early k seat no_exprs = false
first_early k seat (more_exprs e es) = is_early (label_in k (seat 0).want e).codes

-- whether the second item of all stands too early, of the items from a position on
abbrev pub early_from : ℕ → Standing → (ℕ → Seat) → Exprs → Test
early_from zero k seat es = second_is_early k seat es
early_from (suc zero) k seat es = first_early k seat es
early_from (suc (suc n)) k seat es = false

early_second_is : (k : Standing) (seat : ℕ → Seat) (e : Expr) (es : Exprs) → second_is_early k seat (more_exprs e es)
    ≡ first_early k (λ i. seat (suc i)) es
early_second_is k seat e no_exprs = early_one k seat e
early_second_is k seat e (more_exprs f es) = early_two k seat e f es

or_none : (b : Test) → (b || false) ≡ b
or_none true = refl
or_none false = refl

or_in_turn : (a b c : Test) → ((a || b) || c) ≡ (a || (b || c))
or_in_turn true b c = refl
or_in_turn false b c = refl

early_past : (j : ℕ) → 2 ≤ j → (k : Standing) (seat : ℕ → Seat) (es : Exprs) → early_from j k seat es ≡ false
early_past zero h k seat es = absurd (omega (arith, h))
early_past (suc zero) h k seat es = absurd (omega (arith, h))
early_past (suc (suc n)) h k seat es = refl

early_empty : (j : ℕ) (k : Standing) (seat : ℕ → Seat) → early_from j k seat no_exprs ≡ false
early_empty zero k seat = early_none k seat
early_empty (suc zero) k seat = refl
early_empty (suc (suc n)) k seat = refl

module _ (k : Standing) (seat : ℕ → Seat) (items : List RustExpr) (e : RustExpr) where
  early_at : (i : ℕ) → i < length items → e ≡ get_or items i e →
      early_from i k (seats_from i seat) (exprs_of_list (drop i items))
      ≡ ((nat_eq i 1 && is_early (label_in k (seat i).want (expr_of e)).codes) || early_from (i + 1) k
      (seats_from (i + 1) seat) (exprs_of_list (drop (i + 1) items)))
  early_at zero lt is = ap (λ es. second_is_early k seat (exprs_of_list es)) (cons_at items 0 e lt is)
      ∙ early_second_is k seat (expr_of e) (exprs_of_list (drop 1 items))
  early_at (suc zero) lt is = ap (λ es. first_early k (seats_from 1 seat) (exprs_of_list es)) (cons_at items 1 e lt is)
      ∙ sym (or_none (is_early (label_in k (seat 1).want (expr_of e)).codes))
  early_at (suc (suc n)) lt is =
      let other : nat_eq (suc (suc n)) 1 ≡ false = grind (arith, nat_tests) in
      let past : early_from (suc (suc n) + 1) k (seats_from (suc (suc n) + 1) seat)
      (exprs_of_list (drop (suc (suc n) + 1) items)) ≡ false = early_past (suc (suc n) + 1) (omega arith) k
      (seats_from (suc (suc n) + 1) seat) (exprs_of_list (drop (suc (suc n) + 1) items)) in
      sym (ap (λ b. (b && is_early (label_in k (seat (suc (suc n))).want (expr_of e)).codes) || early_from
      (suc (suc n) + 1) k (seats_from (suc (suc n) + 1) seat) (exprs_of_list (drop (suc (suc n) + 1) items))) other
      ∙ past)

  pub early_step : (i : ℕ) → i < length items → e ≡ get_or items i e → (early next all : Test) (codes : List Code)
      → codes ≡ once (label_in k (seat i).want (expr_of e)).codes → next ≡ (early || (nat_eq i 1 && is_early codes)) →
      (early || early_from i k (seats_from i seat) (exprs_of_list (drop i items))) ≡ all
      → (next || early_from (i + 1) k (seats_from (i + 1) seat) (exprs_of_list (drop (i + 1) items))) ≡ all
  early_step i lt is early next all codes once_is n h =
      let rest = early_from (i + 1) k (seats_from (i + 1) seat) (exprs_of_list (drop (i + 1) items)) in
      ap (λ b. b || rest) (n ∙ ap (λ cs. early || (nat_eq i 1 && is_early cs)) once_is
      ∙ ap (λ b. early || (nat_eq i 1 && b)) (once_early (label_in k (seat i).want (expr_of e)).codes))
      ∙ or_in_turn early (nat_eq i 1 && is_early (label_in k (seat i).want (expr_of e)).codes) rest
      ∙ ap (λ b. early || b) (sym (early_at i lt is))
      ∙ h

pub early_end : (k : Standing) (seat : ℕ → Seat) (items : List RustExpr) (i : ℕ) → length items ≤ i → (early all : Test)
    → (early || early_from i k (seats_from i seat) (exprs_of_list (drop i items))) ≡ all → early ≡ all
early_end k seat items i le early all h =
    sym (or_none early) ∙ ap (λ b. early || b) (sym (ap (λ es. early_from i k (seats_from i seat) (exprs_of_list es))
    (drop_all i items le) ∙ early_empty i k (seats_from i seat))) ∙ h
