-- The environment after a suite agrees with the one before it at the locals that it does not touch, so whatever
-- subsumed the one there subsumes both.
use Rattle.std.proofs.Common.{◌≡◌, ◌∙◌, ℕ, List, ◌++◌, Some, length, refl, sym, ap, subst}
use Rattle.std.specs.Prelude.{true, false, Option}
use Rattle.pc_tree.specs.Tree.{Expr, Stmts}
use Rattle.pc_tree.specs.Stopping.{bound_by}
use Rattle.pc_flow.specs.Agreement.{is_among, AgreeOutside}
use Rattle.pc_flow.specs.Environment.{Env, current}
use Rattle.pc_flow.specs.Narrowing.{tested_locals}
use Rattle.pc_flow.specs.WellFormed.{IsWellFormedIfAny, IsWellFormedEnv}
use Rattle.pc_flow.proofs.Conditions.{current_well_formed}
use Rattle.pc_notes.specs.Notes.{Note}
use Rattle.pc_module_rules.specs.Computed.Statements.{BodyContext, DeclaredTypes, Walk, narrowed_at, walk_suite}
use Rattle.pc_walk.specs.Touched.{numbers_of, tested_in, touched_by, touched_by_while}
use Rattle.pc_walk.specs.Untouched.{AreAmong, AgreesIfAny}
use Rattle.pc_walk.proofs.KeptLocals.{IsKept, apart_both}
use Rattle.pc_walk.proofs.Settled.{agrees_kept}
use Rattle.pc_walk.proofs.Untouched.{among_apart, narrowed_here, narrowed_long, suite_here}
use Rattle.pc_check.specs.Internal.StatementWalk.{IsAsLong, IsAsLongIfAny}
use Rattle.pc_check.proofs.Agreed.{suite_long}

-- A walk over a branch from its condition: the environment at the end of its suite, and the one where the condition is
-- false, agree with the environment before at each local that the branch does not touch.
pub record Branched (touched : List ℕ) (last next : Env) (out : Walk) : Type 0 where
  pub agrees : AgreesIfAny touched last out.env
  pub next_agrees : AgreeOutside touched next last
  pub last_long : IsAsLong out.table next
  pub exit_env_long : IsAsLongIfAny out.table out.exit_env

pub branch_settles : (context : BodyContext) (touched : List ℕ) (table : DeclaredTypes) (last : Env) (exit_env : Option Env)
    (found : List Note) (c : Expr) (b : Stmts) →
    IsWellFormedEnv context.context.bases last →
    length last ≡ length table →
    IsAsLongIfAny table exit_env →
    AreAmong touched (touched_by_while context.context.resolve c b) →
    Branched touched last (narrowed_at context table false c last) (walk_suite context (record {
      table = table;
      env = Some (narrowed_at context table true c last);
      exit_env = exit_env;
      found = found;
    }) b)
branch_settles context touched table last exit_env found c b w l g a =
    let resolve = context.context.resolve in
    let kind : ℕ → Type 0 = λ x. is_among touched x ≡ false in
    let fine : (x : ℕ) → kind x → IsWellFormedIfAny context.context.bases (current last x) =
    λ x o. current_well_formed context.context.bases last x w in
    let apart = apart_both kind last (numbers_of resolve (bound_by b)) (tested_locals resolve c ++ tested_in resolve b)
    (among_apart touched last (touched_by_while resolve c b) a) in
    let tests = apart_both kind last (tested_locals resolve c) (tested_in resolve b) apart.1 in
    let same : IsKept kind last last = record { long = refl; same = λ x k. refl } in
    let start : Walk = record {
      table = table;
      env = Some (narrowed_at context table true c last);
      exit_env = exit_env;
      found = found;
    } in
    let next = narrowed_here context kind last fine table false c last (sym l) tests.0 same in
    let behind = suite_here context kind last fine start b (sym l)
    (narrowed_here context kind last fine table true c last (sym l) tests.0 same) apart.0 tests.1 in
    let long = suite_long context start b
    (record { env_long = narrowed_long context table true c last l; exit_env_long = g }) in
    record {
      agrees = agrees_kept touched last (walk_suite context start b).env behind.env_here;
      next_agrees = next.same;
      last_long = next.long ∙ sym behind.long;
      exit_env_long = long.exit_env_long;
    }

-- and what a program came to that walked so
pub branch_out : (context : BodyContext) (touched : List ℕ) (table : DeclaredTypes) (last : Env) (exit_env : Option Env)
    (found : List Note) (c : Expr) (b : Stmts) (start body : Walk) →
    IsWellFormedEnv context.context.bases last →
    length last ≡ length table →
    IsAsLongIfAny table exit_env →
    AreAmong touched (touched_by_while context.context.resolve c b) →
    start ≡ record {
      table = table;
      env = Some (narrowed_at context table true c last);
      exit_env = exit_env;
      found = found;
    } →
    body ≡ walk_suite context start b →
    Branched touched last (narrowed_at context table false c last) body
branch_out context touched table last exit_env found c b start body w l g a es eb =
    subst (Branched touched last (narrowed_at context table false c last))
    (sym (eb ∙ ap (λ s. walk_suite context s b) es))
    (branch_settles context touched table last exit_env found c b w l g a)

-- and a walk over the suite of `else`
pub otherwise_settles : (context : BodyContext) (touched : List ℕ) (table : DeclaredTypes) (last : Env) (exit_env : Option Env)
    (found : List Note) (o : Stmts) →
    IsWellFormedEnv context.context.bases last →
    length last ≡ length table →
    AreAmong touched (touched_by context.context.resolve o) →
    AgreesIfAny touched last (walk_suite context (record {
      table = table;
      env = Some last;
      exit_env = exit_env;
      found = found;
    }) o).env
otherwise_settles context touched table last exit_env found o w l a =
    let resolve = context.context.resolve in
    let kind : ℕ → Type 0 = λ x. is_among touched x ≡ false in
    let apart = apart_both kind last (numbers_of resolve (bound_by o)) (tested_in resolve o)
    (among_apart touched last (touched_by resolve o) a) in
    let start : Walk = record { table = table; env = Some last; exit_env = exit_env; found = found } in
    let behind = suite_here context kind last (λ x k. current_well_formed context.context.bases last x w) start o
    (sym l) (record { long = refl; same = λ x k. refl }) apart.0 apart.1 in
    agrees_kept touched last (walk_suite context start o).env behind.env_here
