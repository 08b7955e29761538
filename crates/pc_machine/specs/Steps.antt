-- The steps that the text of the model is built from. The text is read twice: as all possible runs, and as a plain run.
-- Own rule of the profile.
use Rattle.std.specs.Prelude.{ℕ, List, Option, Some, None}
use Rattle.pc_source.specs.declared.place.Place.{Place}
use Rattle.pc_tree.specs.Tree.{Expr, Stmts}
use Rattle.pc_value.specs.Value.{Value, Stop, Other, Out, Gives, Stops}
use Rattle.pc_value.specs.Actions.{Action, Iteration, Outcome, gives, iterates, finished, stops}
use Rattle.pc_machine.specs.State.{State, Frame}

-- one reading of the text: the meaning of each kind of step
pub record Interpretation {ℓ} (Step : Type 0 → Type ℓ) : Type (ℓ ⊔ 1) where
  -- a step that gives a value at once
  pub pure : {A : Type 0} → A → Step A
  -- one step and then another
  pub ◌>>=◌ : {A B : Type 0} → Step A → (A → Step B) → Step B
  -- the stop of the run
  pub stop : {A : Type 0} → Stop → Step A
  -- the charge at the start of a statement, a constant or an expression
  pub charge : Step (Unit {0})
  -- the event that a place is evaluated
  pub emit : Place → Step (Unit {0})
  -- a result of the current state
  pub look : {A : Type 0} → (State → Out A) → Step A
  -- a change of the state
  pub change : (State → State) → Step (Unit {0})
  -- an action on values, and the wanted reading of its outcome
  pub act : {A : Type 0} → (Outcome → Out A) → Action → Step A
  -- a body in a new frame, after which the caller's frame is restored
  pub enter : {A : Type 0} → Frame → Step A → Step A

-- the way a statement ends: the next one follows, the innermost loop is left or begins its next turn, or the function
-- is left with a value
pub data StatementEnd : Type 0 where
  next breaking continuing : StatementEnd
  leaves : (value : Value) → StatementEnd

-- the steps of a node's parts: an expression, a suite, the turns of a `while` and of a `for`
pub record Parts {ℓ} (Step : Type 0 → Type ℓ) : Type ℓ where
  pub eval : Expr → Step Value
  pub exec : Stmts → Step StatementEnd
  pub again : Expr → Stmts → Step StatementEnd
  pub turns : Iteration → ℕ → List ℕ → Stmts → Step StatementEnd

-- an outcome read as a value; no action that is read so has another outcome
abbrev pub value_out : Outcome → Out Value
value_out (gives v) = Gives v
value_out (iterates over) = Stops Other
value_out finished = Stops Other
value_out (stops stop) = Stops stop

-- an outcome read as the source of a `for`'s items
abbrev pub iteration_out : Outcome → Out Iteration
iteration_out (gives v) = Stops Other
iteration_out (iterates over) = Gives over
iteration_out finished = Stops Other
iteration_out (stops stop) = Stops stop

-- an outcome read as the item of a turn, or none at the end of the loop
abbrev pub item_out : Outcome → Out (Option Value)
item_out (gives v) = Gives (Some v)
item_out (iterates over) = Stops Other
item_out finished = Gives None
item_out (stops stop) = Stops stop
