-- The ways a step may end if nothing fails. Own rule of the profile.
use Rattle.pc_value.specs.Value.{Out, Gives, Stops, Raised, Other, Outside, Cut}

-- the step ends with a value as wanted, in another exception, or cut off
abbrev pub EndsWell : {A : Type 0} → (A → Type 0) → Out A → Type 0
EndsWell P (Gives a) = P a
EndsWell P (Stops (Raised e)) = ⊥
EndsWell P (Stops Outside) = ⊥
EndsWell P (Stops Other) = Unit {0}
EndsWell P (Stops Cut) = Unit {0}
