-- The text of the model read as a plain run: a function of the fuel and the choices.
-- Own rule of the profile.
use Rattle.std.specs.Prelude.{ℕ, zero, suc, Bool, true, false, nat_eq, List, [], ◌∷◌, ◌++◌}
use Rattle.pc_source.specs.declared.place.Place.{Place}
use Rattle.pc_value.specs.Value.{Heap, Stop, Cut, Out, Gives, Stops}
use Rattle.pc_value.specs.Actions.{Action, Outcome, ActionResult}
use Rattle.pc_value.specs.Outcomes.{takes_choice}
use Rattle.pc_value.specs.Plain.{plainly_acted}
use Rattle.pc_machine.specs.State.{State, Frame, nothing_bound}
use Rattle.pc_machine.specs.Steps.{Interpretation}

-- a plain run so far: its state, the places evaluated, the fuel and the choice bytes left, the number of open calls
pub record Progress : Type 0 where
  pub state : State
  pub events : List Place
  pub fuel : ℕ
  pub choices : List ℕ
  pub depth : ℕ

-- the result of a step: a value, or the end of the run, with the progress after it
pub data After (A : Type 0) : Type 0 where
  Came : (value : A) (progress : Progress) → After A
  Ended : (stop : Stop) (progress : Progress) → After A

-- a step of a plain run, from the progress before it
abbrev pub Step : Type 0 → Type 0
Step A = Progress → After A

-- the next step after one that gave a value; if the run has ended, its end
abbrev pub and_then : {A B : Type 0} → After A → (A → Step B) → After B
and_then (Came a w) next = next a w
and_then (Ended stop w) next = Ended stop w

infixl 20 ◌>>=◌
-- one step and then another; if the first ends the run, that is the end of both
abbrev pub ◌>>=◌ : {A B : Type 0} → Step A → (A → Step B) → Step B
(first >>= next) w = and_then (first w) next

-- a step that only gives this value or stop
abbrev pub comes : {A : Type 0} → Out A → Step A
comes (Gives a) w = Came a w
comes (Stops stop) w = Ended stop w

-- one unit taken from this fuel; cut off if there is none
abbrev pub charge_from : ℕ → Step (Unit {0})
charge_from zero w = Ended Cut w
charge_from (suc fuel) w = Came tt (record w { fuel = fuel })

-- one unit of fuel taken; cut off if none is left
abbrev pub charge : Step (Unit {0})
charge w = charge_from w.fuel w

-- the progress after a place is evaluated
abbrev pub after_event : Place → Progress → Progress
after_event place w = record w { events = w.events ++ place ∷ [] }

-- the event that a place is evaluated
abbrev pub emit : Place → Step (Unit {0})
emit place w = Came tt (after_event place w)

-- a result of the current state
abbrev pub look : {A : Type 0} → (State → Out A) → Step A
look f w = comes (f w.state) w

-- the progress after a change of the state
abbrev pub after_change : (State → State) → Progress → Progress
after_change f w = record w { state = f w.state }

-- a change of the state
abbrev pub change : (State → State) → Step (Unit {0})
change f w = Came tt (after_change f w)

-- the next choice byte, or 0 if they are used up
abbrev pub next_choice : List ℕ → ℕ
next_choice [] = 0
next_choice (byte ∷ rest) = byte

-- the choice bytes without the next one if it was taken
abbrev pub later_choices : Bool → List ℕ → List ℕ
later_choices taken [] = []
later_choices true (byte ∷ rest) = rest
later_choices false (byte ∷ rest) = byte ∷ rest

-- the progress after an action, given its heap and whether it took a choice
abbrev pub after_action : Bool → Heap → Progress → Progress
after_action taken heap w = record w { state = record w.state { heap = heap }; choices = later_choices taken w.choices }

-- the wanted reading of an action's outcome, with the heap and the choices after the action
abbrev pub acted_to : {A : Type 0} → (Outcome → Out A) → Bool → ActionResult → Step A
acted_to want taken a w = comes (want a.outcome) (after_action taken a.heap w)

-- an action; a free answer takes the next choice byte
abbrev pub act : {A : Type 0} → (Outcome → Out A) → Action → Step A
act want a w = acted_to want (takes_choice w.state.heap a) (plainly_acted (next_choice w.choices) a w.state.heap) w

-- the greatest number of open calls
abbrev pub call_limit : ℕ
call_limit = 64

-- the progress after entering a frame, with one more open call
abbrev pub after_entry : Frame → Progress → Progress
after_entry frame w = record w { state = record w.state { frame = frame }; depth = suc w.depth }

-- the progress after returning to the caller's frame
abbrev pub back_in : Progress → Progress → Progress
back_in w v = record v { state = record v.state { frame = w.state.frame }; depth = w.depth }

-- the result of a body, after returning to the caller's frame
abbrev pub left_to : Progress → {A : Type 0} → After A → After A
left_to w (Came a v) = Came a (back_in w v)
left_to w (Ended stop v) = Ended stop (back_in w v)

-- a body in its own frame, or cut off at the call limit
abbrev pub entered_if : Bool → {A : Type 0} → Frame → Step A → Step A
entered_if true frame body w = Ended Cut w
entered_if false frame body w = left_to w (body (after_entry frame w))

-- a body in its own frame, if the call limit is not reached
abbrev pub enter : {A : Type 0} → Frame → Step A → Step A
enter frame body w = entered_if (nat_eq w.depth call_limit) frame body w

-- the text of the model read as a plain run
abbrev pub plain : Interpretation Step
plain = record {
  pure = λ a w. Came a w;
  ◌>>=◌ = λ first next. first >>= next;
  stop = λ stop w. Ended stop w;
  charge = charge;
  emit = λ place. emit place;
  look = λ f. look f;
  change = λ f. change f;
  act = λ want a. act want a;
  enter = λ frame body. enter frame body;
}

-- the progress before the first item
abbrev pub begin : ℕ → List ℕ → Progress
begin fuel choices = record { state = nothing_bound; events = []; fuel = fuel; choices = choices; depth = 0 }
