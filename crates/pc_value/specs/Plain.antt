-- Actions in a plain run: free answers from a choice byte, and whole numbers of 128 signed bits.
-- Own rule of the profile.
use Rattle.std.specs.Prelude.{◌≡◌, ℕ, ◌%◌, Bool, true, false, replicate, nat_eq, if◌then◌else◌}
use Rattle.pc_value.specs.Value.{Value, whole, Heap, Cut}
use Rattle.pc_value.specs.Actions.{Action, number, binary, negative, length_of, new_list, new_dict, new_instance}
use Rattle.pc_value.specs.Actions.{store_item, store_attribute, append, pop, Outcome, gives, iterates, finished, stops}
use Rattle.pc_value.specs.Actions.{ActionResult, Free}
use Rattle.pc_value.specs.Numbers.{fits}
use Rattle.pc_value.specs.Outcomes.{action_result}

-- the free answers of a choice byte: true if it is odd, and its remainder by 4 times `x`
abbrev pub free_of : ℕ → Free
free_of byte = record { truth = nat_eq (byte % 2) 1; characters = replicate (byte % 4) 120 }

-- a value, but a whole number that does not fit 128 signed bits cuts the run off
abbrev pub limited_value : Value → Outcome
limited_value (whole n) = if fits n then gives (whole n) else stops Cut
limited_value v = gives v

-- an outcome, but a whole number that does not fit 128 signed bits cuts the run off
abbrev pub limited_outcome : Outcome → Outcome
limited_outcome (gives v) = limited_value v
limited_outcome (iterates over) = iterates over
limited_outcome finished = finished
limited_outcome (stops stop) = stops stop

-- whether an action makes a whole number: a literal, arithmetic, or `len`
abbrev pub makes_number : Action → Bool
makes_number (number n) = true
makes_number (binary operator v w) = true
makes_number (negative v) = true
makes_number (length_of v) = true
makes_number a = false

-- an outcome with that limit if it applies, else unchanged
abbrev pub limited_if : Bool → Outcome → Outcome
limited_if true o = limited_outcome o
limited_if false o = o

-- the result of an action in a plain run
abbrev pub plainly_acted : ℕ → Action → Heap → ActionResult
plainly_acted byte action heap = record {
  outcome = limited_if (makes_number action) (action_result (free_of byte) action heap).outcome;
  heap = (action_result (free_of byte) action heap).heap;
}

-- the outcome is that of an action that leaves the heap unchanged
abbrev pub IsAnswer : ℕ → Action → Heap → Outcome → Type 0
IsAnswer byte (new_list items) heap o = Unit {0}
IsAnswer byte (new_dict entries) heap o = Unit {0}
IsAnswer byte (new_instance class fields) heap o = Unit {0}
IsAnswer byte (store_item object key v) heap o = Unit {0}
IsAnswer byte (store_attribute object name v) heap o = Unit {0}
IsAnswer byte (append object v) heap o = Unit {0}
IsAnswer byte (pop object) heap o = Unit {0}
IsAnswer byte action heap o = o ≡ (plainly_acted byte action heap).outcome
