-- The runs of a module, and its plain runs.
-- Own rule of the profile.
use Rattle.std.specs.Prelude.{◌≡◌, ◌⊎◌, ℕ, ◌<◌, IsTrue, IsFalse, List, []}
use Rattle.pc_source.specs.declared.place.Place.{Place}
use Rattle.pc_tree.specs.Tree.{Module}
use Rattle.pc_tree.specs.Stopping.{is_runnable}
use Rattle.pc_value.specs.Value.{Value, Stop, Raised, Other, Outside, Cut, Out, Gives, Stops}
use Rattle.pc_machine.specs.State.{State, nothing_bound}
use Rattle.pc_machine.specs.Steps.{Parts}
use Rattle.pc_machine.specs.Evaluation.{steps, exec_module}
use Rattle.pc_machine.specs.Free as free
use Rattle.pc_machine.specs.Plain as plain
use Rattle.pc_machine.specs.Plain.{Progress, After, Came, Ended}

-- the end of a run
pub data End : Type 0 where
  done : End
  stopped : (stop : Stop) → End

-- the end of a run with this result
abbrev pub end_with : Out Value → End
end_with (Gives v) = done
end_with (Stops stop) = stopped stop

-- the steps of all possible runs, with at most n nested steps
abbrev pub free_parts : ℕ → Parts free.Step
free_parts n = steps free.Step free.free n

-- the steps of a plain run, with at most n nested steps
abbrev pub plain_parts : ℕ → Parts plain.Step
plain_parts n = steps plain.Step plain.plain n

-- all possible runs of a module, with at most n nested steps
abbrev pub free_module : ℕ → Module → free.Step Value
free_module n m = exec_module free.Step free.free (free_parts n) m

-- the plain run of a module, with at most n nested steps
abbrev pub plain_module : ℕ → Module → plain.Step Value
plain_module n m = exec_module plain.Step plain.plain (plain_parts n) m

-- a run of the items and of `main`, for some number of nested steps: its events and its end
pub record Ran (m : Module) (events : List Place) (end : End) : Type 0 where
  pub bound : ℕ
  pub out : Out Value
  pub left : State
  pub runs : free_module bound m nothing_bound events out left
  pub is : end ≡ end_with out

-- the only run of a module with a code that prevents running: no event, out of the profile
pub record NeverRan (events : List Place) (end : End) : Type 0 where
  pub quiet : events ≡ []
  pub is : end ≡ stopped Outside

-- a run of a module: if a code prevents running, that one, else any of its items and `main`
abbrev pub Run : Module → List Place → End → Type 0
Run m events end = (IsFalse (is_runnable m) × NeverRan events end) ⊎ (IsTrue (is_runnable m) × Ran m events end)

-- a plain run has these events and this end
abbrev pub Leaves : After Value → List Place → End → Type 0
Leaves (Came v w) events end = (events ≡ w.events) × (end ≡ done)
Leaves (Ended stop w) events end = (events ≡ w.events) × (end ≡ stopped stop)

-- the plain run of the items and of `main`; each nested step is charged first, so any bound above the fuel is enough
pub record PlainlyRan (m : Module) (fuel : ℕ) (choices : List ℕ) (events : List Place) (end : End) : Type 0 where
  pub leaves : (bound : ℕ) → fuel < bound → Leaves (plain_module bound m (plain.begin fuel choices)) events end

-- the plain run of a module for a fuel and choices
abbrev pub PlainRun : Module → ℕ → List ℕ → List Place → End → Type 0
PlainRun m fuel choices events end = (IsFalse (is_runnable m) × NeverRan events end)
    ⊎ (IsTrue (is_runnable m) × PlainlyRan m fuel choices events end)

-- the ends that the report covers: one of the four exceptions, or out of the profile
abbrev pub IsFaultyEnd : End → Type 0
IsFaultyEnd done = ⊥
IsFaultyEnd (stopped (Raised exception)) = Unit {0}
IsFaultyEnd (stopped Outside) = Unit {0}
IsFaultyEnd (stopped Other) = ⊥
IsFaultyEnd (stopped Cut) = ⊥

-- each plain run of a module, whatever the fuel and the choices, is a run of it
abbrev pub PlainRunsAreRuns : Type 0
PlainRunsAreRuns = (m : Module) (fuel : ℕ) (choices : List ℕ) (events : List Place) (end : End)
    → PlainRun m fuel choices events end → Run m events end
