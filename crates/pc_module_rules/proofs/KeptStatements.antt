-- Where a walk over statements comes to, whether it keeps types or not: to the declared types and the environments of
-- lawful labels.
use Rattle.std.proofs.Common.{◌≡◌, List, ◌++◌, refl, sym, ap, ◌∙◌, subst}
use Rattle.std.specs.Prelude.{Bool as Test, false, Option, Some, None}
use Rattle.pc_tree.specs.declared.code.Finding.{Finding}
use Rattle.pc_tree.specs.Tree.{Stmt, Stmts, no_stmts, more_stmts}
use Rattle.pc_tree.specs.Stopping.{bound_by, bound_by_stmt}
use Rattle.pc_scope.specs.Bindings.{texts}
use Rattle.pc_types.specs.Tree.{Tree}
use Rattle.pc_types.specs.WellFormed.{IsWellFormed}
use Rattle.pc_flow.specs.Environment.{Env}
use Rattle.pc_notes.specs.Notes.{Note}
use Rattle.pc_module_rules.specs.StatementLabels.{StmtLabels, SuiteLabels}
use Rattle.pc_module_rules.specs.Statements.{NamesBound, LawfulStmt, LawfulSuite}
use Rattle.pc_module_rules.specs.Laws.Labellings.{Surroundings}
use Rattle.pc_module_rules.specs.Computed.Statements.{DeclaredTypes, BodyContext, Walk, step, walk_suite}
use Rattle.pc_module_rules.specs.Laws.Walks.{TableFits, EnvFits, OutFits, WalkSays, body_context_in}
use Rattle.pc_module_rules.proofs.WalkedStatements.{stmt_says, suite_says}
use Rattle.pc_module_rules.proofs.KeptWalks.{SameWalk, standing, same_step, same_suite}

module _ (keeps : Test) (around : Surroundings) (returned : Tree)
    (kr : IsWellFormed around.context.bases returned) (declared : List Tree) where
  open around use {whole as m, context as ctx}

  -- the context of the statements, where types may be kept, and where they are not
  abbrev kept : BodyContext
  kept = standing m ctx returned keeps

  abbrev bare : BodyContext
  bare = body_context_in around returned

  abbrev TableHere : NamesBound → DeclaredTypes → Type 0
  TableHere seen table = TableFits around declared seen table

  abbrev LawfulHere : NamesBound → Env → (s : Stmt) → StmtLabels s → Option Env → Type 0
  LawfulHere seen env s labels out = LawfulStmt m ctx declared returned seen env s labels out

  abbrev LawfulThere : NamesBound → Env → (b : Stmts) → SuiteLabels b → Option Env → Type 0
  LawfulThere seen env b labels out = LawfulSuite m ctx declared returned seen env b labels out

  -- the walk has come to the environment of the labels, from this table to one that fits
  pub record StateFits (seen : NamesBound) (table : DeclaredTypes) (w : Walk) (out : Option Env) : Type 0 where
    pub fits : TableHere seen w.table
    pub grows : (env : Env) → EnvFits around declared table env → EnvFits around declared w.table env
    pub env_is : w.env ≡ out
    pub env_fits : OutFits around declared w.table out
    pub exit_env_fits : OutFits around declared w.table w.exit_env

  stands : (seen : NamesBound) (table : DeclaredTypes) (exit_env : Option Env) (found : List Note) (v w : Walk) (out : Option Env)
      (ways : List Env) (Says : Finding → Type 0) → SameWalk v w
      → WalkSays around declared seen table exit_env found w out ways Says → StateFits seen table v out
  stands seen table exit_env found v w out ways Says h says = record {
    fits = subst (λ (t : DeclaredTypes). TableHere seen t) (sym h.table) says.fits;
    grows = λ env f. subst (λ (t : DeclaredTypes). EnvFits around declared t env) (sym h.table) (says.grows env f);
    env_is = h.env ∙ says.env_is;
    env_fits = subst (λ (t : DeclaredTypes). OutFits around declared t out) (sym h.table) says.env_fits;
    exit_env_fits = subst (λ (t : DeclaredTypes). OutFits around declared t v.exit_env) (sym h.table)
        (subst (λ (o : Option Env). OutFits around declared w.table o) (sym h.exit_env) says.exit_env_fits);
  }

  pub stmt_stands : (seen : NamesBound) (table : DeclaredTypes) (env : Env) (exit_env : Option Env) (found : List Note)
      → TableHere seen table → EnvFits around declared table env → OutFits around declared table exit_env
      → (s : Stmt) (labels : StmtLabels s) (out : Option Env) → LawfulHere seen env s labels out
      → StateFits (texts (bound_by_stmt s) ++ seen) table (step kept table (Some env) exit_env found s) out
  stmt_stands seen table env exit_env found t f kb s labels out l =
      stands (texts (bound_by_stmt s) ++ seen) table exit_env found (step kept table (Some env) exit_env found s)
      (step bare table (Some env) exit_env found s) out _ _
      (same_step m ctx returned keeps false table (Some env) exit_env found found s)
      (stmt_says around returned kr declared seen table env exit_env found t f kb s labels out l)

  pub suite_stands : (seen : NamesBound) (w : Walk) (env : Env) → w.env ≡ Some env → TableHere seen w.table
      → EnvFits around declared w.table env → OutFits around declared w.table w.exit_env
      → (b : Stmts) (labels : SuiteLabels b) (out : Option Env) → LawfulThere seen env b labels out
      → StateFits (texts (bound_by b) ++ seen) w.table (walk_suite kept w b) out
  suite_stands seen w env e t f kb b labels out l =
      stands (texts (bound_by b) ++ seen) w.table w.exit_env w.found (walk_suite kept w b) (walk_suite bare w b) out
      _ _ (same_suite m ctx returned keeps false w w (record { table = refl; env = refl; exit_env = refl }) b)
      (suite_says around returned kr declared seen w env e t f kb b labels out l)

  -- where no run comes, nothing is noted
  pub none_noted : (v : Walk) → v.env ≡ None → (rest : Stmts) → (walk_suite kept v rest).found ≡ v.found
  none_noted v e no_stmts = refl
  none_noted v e (more_stmts s rest) =
      none_noted (step kept v.table v.env v.exit_env v.found s)
      (ap (λ (o : Option Env). (step kept v.table o v.exit_env v.found s).env) e) rest
      ∙ ap (λ (o : Option Env). (step kept v.table o v.exit_env v.found s).found) e
