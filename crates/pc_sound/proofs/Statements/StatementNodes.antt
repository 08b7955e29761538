-- Each statement runs according to its labels, if its parts do.
use Rattle.std.specs.Prelude.{Some, None}
use Rattle.pc_tree.specs.Tree.{Expr, Stmt, pass, breaks, continues, returns, asserts, annotated, assigns, evaluates}
use Rattle.pc_tree.specs.Tree.{while_loop, for_loop, conditional, Module}
use Rattle.pc_tree.specs.Depth.{place_of}
use Rattle.pc_types.specs.Tree.{Tree}
use Rattle.pc_rules.specs.Context.{Context}
use Rattle.pc_machine.specs.Steps.{Parts}
use Rattle.pc_machine.specs.Free.{Step, free}
use Rattle.pc_machine.specs.Evaluation.{exec_node, exec_all}
use Rattle.pc_sound.proofs.Steps.Judgment.{Around, IsContextOf}
use Rattle.pc_sound.proofs.Expressions.SimpleExpressions.{GoodEval}
use Rattle.pc_sound.proofs.Values.Flows.{Evaluates}
use Rattle.pc_sound.proofs.Expressions.Conditions.{Decides}
use Rattle.pc_sound.proofs.Statements.WaysOut.{GoodExec, GoodStmt, suite_runs}
use Rattle.pc_sound.proofs.Statements.SimpleStatements.{GoodStores, pass_runs, breaks_runs, continues_runs}
use Rattle.pc_sound.proofs.Statements.SimpleStatements.{evaluates_runs, returns_none_runs, returns_runs, asserts_runs}
use Rattle.pc_sound.proofs.Statements.SimpleStatements.{annotated_none_runs, annotated_runs, assigns_runs}
use Rattle.pc_sound.proofs.Statements.Branches.{conditional_runs}
use Rattle.pc_sound.proofs.Statements.LoopTurns.{GoodAgain, while_runs}
use Rattle.pc_sound.proofs.Statements.ForLoops.{GoodIterables, GoodTurns, for_runs}

-- the parts of a step that statements are run with are good
pub record GoodParts (around : Around) (ctx : Context) (fits : IsContextOf around ctx) (m : Module) (returned : Tree)
    (parts : Parts Step) : Type 1 where
  pub eval : GoodEval around ctx parts.eval
  pub place : (e : Expr) → Evaluates (place_of e) (parts.eval e)
  pub decides : Decides around ctx parts.eval
  pub stores : GoodStores around m ctx parts
  pub iterables : GoodIterables around ctx fits m returned parts
  pub exec : GoodExec around ctx m returned parts.exec
  pub again : GoodAgain around ctx fits m returned parts.again
  pub turns : GoodTurns around ctx fits m returned parts.turns

module _ (around : Around) (ctx : Context) (fits : IsContextOf around ctx) (m : Module) (returned : Tree)
    (parts : Parts Step) (good : GoodParts around ctx fits m returned parts) where
  pub node_runs : (s : Stmt) → GoodStmt around ctx m returned s (exec_node Step free parts s)
  node_runs (pass p) = pass_runs around ctx fits m returned parts good.eval good.place good.decides good.stores p
  node_runs (breaks p) = breaks_runs around ctx fits m returned parts good.eval good.place good.decides good.stores p
  node_runs (continues p) = continues_runs around ctx fits m returned parts good.eval good.place good.decides
      good.stores p
  node_runs (returns p None) = returns_none_runs around ctx fits m returned parts good.eval good.place good.decides
      good.stores p
  node_runs (returns p (Some e)) = returns_runs around ctx fits m returned parts good.eval good.place good.decides
      good.stores p e
  node_runs (asserts p c e) = asserts_runs around ctx fits m returned parts good.eval good.place good.decides
      good.stores p c e
  node_runs (annotated p n a None) = annotated_none_runs around ctx fits m returned parts good.eval good.place
      good.decides good.stores p n a
  node_runs (annotated p n a (Some e)) = annotated_runs around ctx fits m returned parts good.eval good.place
      good.decides good.stores p n a e
  node_runs (assigns p t e) = assigns_runs around ctx fits m returned parts good.eval good.place good.decides
      good.stores p t e
  node_runs (evaluates p e) = evaluates_runs around ctx fits m returned parts good.eval good.place good.decides
      good.stores p e
  node_runs (while_loop p c b) = while_runs around ctx fits m returned parts good.again p c b
  node_runs (for_loop p n e b) = for_runs around ctx fits m returned parts good.iterables good.turns p n e b
  node_runs (conditional p bs o) = conditional_runs around ctx fits m returned parts good.decides good.exec p bs o

  -- suites of one step more run as they are labelled
  pub suites_run : GoodExec around ctx m returned (exec_all Step free parts)
  suites_run = record {
    runs = λ seen env b labels out law covered keyed. suite_runs around ctx m returned parts
        node_runs seen env b labels out law covered keyed;
  }
