-- The text of the model read as a relation of all possible runs. Any step may end in another exception or be cut off,
-- and free answers are arbitrary.
-- Own rule of the profile.
use Rattle.std.specs.Prelude.{◌≡◌, ◌⊎◌, List, [], ◌∷◌, ◌++◌}
use Rattle.pc_source.specs.declared.place.Place.{Place}
use Rattle.pc_value.specs.Value.{Stop, Other, Cut, Out, Gives, Stops}
use Rattle.pc_value.specs.Actions.{Action, Outcome, Free}
use Rattle.pc_value.specs.Outcomes.{action_result}
use Rattle.pc_machine.specs.State.{State, Frame}
use Rattle.pc_machine.specs.Steps.{Interpretation}

-- a possible step: from a state, by the places evaluated in order, to a value or stop and the state after it
abbrev pub Step : Type 0 → Type 1
Step A = State → List Place → Out A → State → Type 0

-- the first step gave a value, and the next one ran from it
pub record WentOn {A B : Type 0} (first : Step A) (next : A → Step B) (s : State) (events : List Place) (out : Out B)
    (s' : State) : Type 0 where
  pub value : A
  pub middle : State
  pub early : List Place
  pub late : List Place
  pub before : first s early (Gives value) middle
  pub after : next value middle late out s'
  pub both : events ≡ early ++ late

-- the first step ended the run
pub record StoppedIn {A B : Type 0} (first : Step A) (s : State) (events : List Place) (out : Out B)
    (s' : State) : Type 0 where
  pub stop : Stop
  pub before : first s events (Stops stop) s'
  pub is : out ≡ Stops stop

infixl 20 ◌>>=◌
-- one step and then another; if the first ends the run, that is the end of both
abbrev pub ◌>>=◌ : {A B : Type 0} → Step A → (A → Step B) → Step B
(first >>= next) s events out s' = WentOn first next s events out s' ⊎ StoppedIn first s events out s'

-- the step gives this, evaluates no place and keeps the state
pub record ComesQuietly {A : Type 0} (to : Out A) (s : State) (events : List Place) (out : Out A)
    (s' : State) : Type 0 where
  pub is : out ≡ to
  pub quiet : events ≡ []
  pub same : s' ≡ s

-- a step that only gives this value or stop
abbrev pub comes : {A : Type 0} → Out A → Step A
comes to = ComesQuietly to

-- a step that ends in another exception, or is cut off
abbrev pub may_end : {A : Type 0} → Step A
may_end s events out s' = ComesQuietly (Stops Other) s events out s' ⊎ ComesQuietly (Stops Cut) s events out s'

-- a step that continues unchanged, ends in another exception, or is cut off
abbrev pub may_stop : Step (Unit {0})
may_stop s events out s' = ComesQuietly (Gives tt) s events out s' ⊎ may_end s events out s'

-- an outcome that continues, is another exception, or is cut off
abbrev pub KeepsGoing : Out (Unit {0}) → Type 0
KeepsGoing (Gives u) = Unit {0}
KeepsGoing (Stops Other) = Unit {0}
KeepsGoing (Stops Cut) = Unit {0}
KeepsGoing (Stops stop) = ⊥

-- a place is evaluated, and then the run may end
pub record Emits (place : Place) (s : State) (events : List Place) (out : Out (Unit {0})) (s' : State) : Type 0 where
  pub goes_on : KeepsGoing out
  pub event : events ≡ place ∷ []
  pub same : s' ≡ s

-- the step gives a result of the state, evaluates no place and keeps the state
pub record Looks {A : Type 0} (f : State → Out A) (s : State) (events : List Place) (out : Out A)
    (s' : State) : Type 0 where
  pub is : out ≡ f s
  pub quiet : events ≡ []
  pub same : s' ≡ s

-- the step changes the state and evaluates no place
pub record Changes (f : State → State) (s : State) (events : List Place) (out : Out (Unit {0}))
    (s' : State) : Type 0 where
  pub is : out ≡ Gives tt
  pub quiet : events ≡ []
  pub after : s' ≡ f s

-- an action with arbitrary free answers
pub record Acts {A : Type 0} (want : Outcome → Out A) (a : Action) (s : State) (events : List Place) (out : Out A)
    (s' : State) : Type 0 where
  pub free : Free
  pub is : out ≡ want (action_result free a s.heap).outcome
  pub quiet : events ≡ []
  pub after : s' ≡ record s { heap = (action_result free a s.heap).heap }

-- a body runs in its own frame, and the caller's frame is restored
pub record Enters {A : Type 0} (frame : Frame) (body : Step A) (s : State) (events : List Place) (out : Out A)
    (s' : State) : Type 0 where
  pub left : State
  pub runs : body (record s { frame = frame }) events out left
  pub after : s' ≡ record left { frame = s.frame }

-- a result of the state; or the step ends in another exception, or is cut off
abbrev pub look : {A : Type 0} → (State → Out A) → Step A
look f s events out s' = Looks f s events out s' ⊎ may_end s events out s'

-- an action with arbitrary free answers; or the step ends in another exception, or is cut off
abbrev pub act : {A : Type 0} → (Outcome → Out A) → Action → Step A
act want a s events out s' = Acts want a s events out s' ⊎ may_end s events out s'

-- a body runs in its own frame; or the step ends in another exception, or is cut off
abbrev pub enter : {A : Type 0} → Frame → Step A → Step A
enter frame body s events out s' = Enters frame body s events out s' ⊎ may_end s events out s'

-- the text of the model read as all possible runs
abbrev pub free : Interpretation Step
free = record {
  pure = λ a. comes (Gives a);
  ◌>>=◌ = λ first next. first >>= next;
  stop = λ stop. comes (Stops stop);
  charge = may_stop;
  emit = λ place. Emits place;
  look = λ f. look f;
  change = λ f. Changes f;
  act = λ want a. act want a;
  enter = λ frame body. enter frame body;
}
