-- A local that is not assigned before a `for` is not assigned after it.
use Rattle.std.proofs.Common.{◌≡◌, ℕ, zero, suc, List, [], ◌∷◌, refl, sym, subst}
use Rattle.std.specs.Prelude.{Bool as Test, Some, None}
use Rattle.std.proofs.lemmas.Option.{same_Some}
use Rattle.pc_source.specs.declared.place.Place.{Place}
use Rattle.pc_tree.specs.Tree.{Name, Expr, Stmts, for_loop, Module}
use Rattle.pc_types.specs.Tree.{Tree}
use Rattle.pc_types.specs.Below.{Bases}
use Rattle.pc_flow.specs.Environment.{Env, current, head_local, loop_head, join_local, join_env, join_envs_onto}
use Rattle.pc_rules.specs.Context.{Context}
use Rattle.pc_module_rules.specs.StatementLabels.{StmtLabels, breaks_in_suite}
use Rattle.pc_module_rules.specs.Statements.{NamesBound, LawfulStmt}

head_unassigned : (bound : ℕ → Test) (ds : List Tree) (env : Env) (x : ℕ) → current env x ≡ None
    → current (loop_head bound ds env) x ≡ None
head_unassigned bound [] env x e = refl
head_unassigned bound (d ∷ ds) [] x e = refl
head_unassigned bound (d ∷ ds) (s ∷ env) zero e = subst (λ o. head_local (bound zero) d o ≡ None) (sym e) refl
head_unassigned bound (d ∷ ds) (s ∷ env) (suc x) e = head_unassigned (λ y. bound (suc y)) ds env x e

join_unassigned : (bases : Bases) (ds : List Tree) (a b : Env) (x : ℕ) → current a x ≡ None
    → current (join_env bases ds a b) x ≡ None
join_unassigned bases [] a b x e = refl
join_unassigned bases (d ∷ ds) [] b x e = refl
join_unassigned bases (d ∷ ds) (s ∷ a) [] x e = refl
join_unassigned bases (d ∷ ds) (s ∷ a) (t ∷ b) zero e = subst (λ o. join_local bases d o t ≡ None) (sym e) refl
join_unassigned bases (d ∷ ds) (s ∷ a) (t ∷ b) (suc x) e = join_unassigned bases ds a b x e

joins_unassigned : (bases : Bases) (ds : List Tree) (env : Env) (ways : List Env) (x : ℕ) → current env x ≡ None
    → current (join_envs_onto bases ds env ways) x ≡ None
joins_unassigned bases ds env [] x e = e
joins_unassigned bases ds env (way ∷ ways) x e = joins_unassigned bases ds (join_env bases ds env way) ways x
    (join_unassigned bases ds env way x e)

pub unassigned_behind : (m : Module) (ctx : Context) (declared : List Tree) (returned : Tree) (seen : NamesBound)
    (env after : Env) (p : Place) (n : Name) (e : Expr) (b : Stmts) (labels : StmtLabels (for_loop p n e b)) (x : ℕ)
    → LawfulStmt m ctx declared returned seen env (for_loop p n e b) labels (Some after) → current env x ≡ None
    → current after x ≡ None
unassigned_behind m ctx declared returned seen env after p n e b labels x law none =
    let head : current labels.head x ≡ None = subst (λ h. current h x ≡ None) (sym law.head)
    (head_unassigned _ declared env x none) in
    subst (λ a. current a x ≡ None) (sym (same_Some _ _ law.after))
    (joins_unassigned ctx.bases declared labels.head (breaks_in_suite b labels.body) x head)
