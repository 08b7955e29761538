-- Bounds on nested steps that are above the fuel.
use Rattle.std.proofs.Common.{◌≡◌, ◌<◌, ℕ, List}
use Rattle.pc_value.specs.declared.action.Action.{Action as RustAction}
use Rattle.pc_value.specs.declared.action.Action.TheVariants as rust_action
use Rattle.pc_value.specs.Actions.{Iteration}
use Rattle.pc_tree.specs.Tree.{Expr, Stmts}
use Rattle.pc_machine.specs.Steps.{StatementEnd}
use Rattle.pc_machine.specs.Plain.{Progress, After}
use Rattle.pc_machine.specs.Runs.{plain_parts}

-- the result of the further turns of a `while`, under some bound above the fuel
pub record Above (fuel : ℕ) (e : Expr) (body : Stmts) (w : Progress) (l : After StatementEnd) : Type 0 where
  pub bound : ℕ
  pub room : fuel < bound
  pub is : l ≡ (plain_parts bound).again e body w

-- the result of the further turns of a `for`, under some bound above the fuel
pub record Turns (fuel : ℕ) (over : Iteration) (i : ℕ) (name : List ℕ) (body : Stmts) (w : Progress)
    (l : After StatementEnd) : Type 0 where
  pub bound : ℕ
  pub room : fuel < bound
  pub is : l ≡ (plain_parts bound).turns over i name body w

-- which turn of a `for` an action is
abbrev pub turn_index : RustAction → ℕ
turn_index (rust_action.Turn over i) = i
turn_index a = 0
