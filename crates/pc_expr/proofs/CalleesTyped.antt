-- Callees of calls, and the two arguments of an instance test, in the labels of the program.
use Rattle.std.proofs.Common.{◌≡◌, ℕ, suc, List, [], ◌∷◌, sym, ap, ◌∙◌, subst, length, get_or, arith}
use Rattle.std.specs.Prelude.{Result, IfOk, Bool as Test, true, Option, ◌++◌}
use Rattle.pc_tree.specs.declared.code.Code.{Code}
use Rattle.pc_tree.specs.declared.tree.Expr.{Expr as RustExpr}
use Rattle.pc_tree.specs.Tree.{more_exprs, no_exprs, expr_of}
use Rattle.pc_tree.specs.Lists.{exprs_of_list}
use Rattle.pc_types.specs.Tree.{Tree}
use Rattle.pc_notes.specs.Notes.{Note}
use Rattle.pc_rules.specs.Calls.{CalleeLabel, Seat}
use Rattle.pc_rules.specs.Context.{is_early}
use Rattle.pc_rules.specs.Computed.Findings.{once}
use Rattle.pc_rules.specs.Computed.Standing.{Standing, label_in, finds_in, types_in, arguments_find}
use Rattle.pc_expr.specs.Typing.{second_is_early}
use Rattle.pc_rules.proofs.Once.{once_early}
use Rattle.pc_expr.proofs.Forms.{types_none, types_more, early_two, arguments_first}
use Rattle.pc_calls.specs.declared.callee.TypedCallee.{TypedCallee as RustCallee}
use Rattle.pc_calls.specs.JudgedCalls.{IsCallee}

module _ {Store Ty : Type 0} (has : Store → Ty → Type 0) (tree : Ty → Tree) (store : Store) where
  -- a callee that means one label means each equal label
  pub callee_as : {E : Type 0} (r : Result (RustCallee Ty) E) (m n : CalleeLabel) → m ≡ n
      → IfOk r (λ c. IsCallee has tree store c m) → IfOk r (λ c. IsCallee has tree store c n)
  callee_as r m n e h = subst (λ (x : CalleeLabel). IfOk r (λ c. IsCallee has tree store c x)) e h

-- two arguments, by their places
pub two_arguments : (es : List RustExpr) (a b : RustExpr) → length es ≡ 2 → a ≡ get_or es 0 a → b ≡ get_or es 1 b
    → exprs_of_list es ≡ more_exprs (expr_of a) (more_exprs (expr_of b) no_exprs)
two_arguments [] a b h i j = absurd (omega (arith, h))
two_arguments (x ∷ []) a b h i j = absurd (omega (arith, h))
two_arguments (x ∷ y ∷ []) a b h i j = ap (λ z. more_exprs (expr_of z) (more_exprs (expr_of y) no_exprs)) (sym i)
    ∙ ap (λ z. more_exprs (expr_of a) (more_exprs (expr_of z) no_exprs)) (sym j)
two_arguments (x ∷ y ∷ z ∷ zs) a b h i j = absurd (omega (arith, h))

module _ (k : Standing) (seat : ℕ → Seat) (es : List RustExpr) (a b : RustExpr)
    (are : exprs_of_list es ≡ more_exprs (expr_of a) (more_exprs (expr_of b) no_exprs)) where
  pub two_types : (s t : Tree) (v w : Option Tree) → v ≡ (seat 0).want → w ≡ (seat 1).want
      → s ≡ (label_in k v (expr_of a)).type → t ≡ (label_in k w (expr_of b)).type
      → s ∷ t ∷ [] ≡ types_in k seat (exprs_of_list es)
  two_types s t v w first second is other =
      ap (λ (x : Tree). x ∷ t ∷ []) (is ∙ ap (λ o. (label_in k o (expr_of a)).type) first)
      ∙ ap (λ (x : Tree). (label_in k (seat 0).want (expr_of a)).type ∷ x ∷ [])
      (other ∙ ap (λ o. (label_in k o (expr_of b)).type) second)
      ∙ sym (ap (types_in k seat) are
      ∙ types_more k seat (expr_of a) (more_exprs (expr_of b) no_exprs)
      ∙ ap (λ (ts : List Tree). (label_in k (seat 0).want (expr_of a)).type ∷ ts)
      (types_more k (λ i. seat (suc i)) (expr_of b) no_exprs
      ∙ ap (λ (ts : List Tree). (label_in k (seat 1).want (expr_of b)).type ∷ ts)
      (types_none k (λ i. seat (suc (suc i))))))

  pub two_early : (w : Option Tree) → w ≡ (seat 1).want → (codes : List Code)
      → codes ≡ once (label_in k w (expr_of b)).codes → (early : Test) → early ≡ is_early codes
      → early ≡ second_is_early k seat (exprs_of_list es)
  two_early w second codes is early e =
      e
      ∙ ap is_early (is ∙ ap (λ o. once (label_in k o (expr_of b)).codes) second)
      ∙ once_early (label_in k (seat 1).want (expr_of b)).codes
      ∙ sym (ap (second_is_early k seat) are ∙ early_two k seat (expr_of a) (expr_of b) no_exprs)

  -- of a test of an instance the first argument alone is looked at
  pub first_found : (v : Option Tree) → v ≡ (seat 0).want → (old new : List Note)
      → new ≡ old ++ finds_in k v (expr_of a) → new ≡ old ++ arguments_find k true seat (exprs_of_list es)
  first_found v first old new h =
      h
      ∙ ap (λ o. old ++ finds_in k o (expr_of a)) first
      ∙ ap (λ fs. old ++ fs) (sym (ap (arguments_find k true seat) are
      ∙ arguments_first k seat (expr_of a) (more_exprs (expr_of b) no_exprs)))
