-- The meaning of the program's actions and outcomes.
use Rattle.std.specs.Prelude.{◌≡◌, ℕ, Bool, true, false, List, map, ℤ, string_bytes, Result, Ok, Err}
use Rattle.pc_value.specs.declared.action.Exception.{Exception as RustException}
use Rattle.pc_value.specs.declared.action.Exception.TheVariants as rust_exception
use Rattle.pc_value.specs.declared.action.Iteration.{Iteration as RustIteration}
use Rattle.pc_value.specs.declared.action.Iteration.TheVariants as rust_iteration
use Rattle.pc_value.specs.declared.action.Action.{Action as RustAction}
use Rattle.pc_value.specs.declared.action.Action.TheVariants as rust
use Rattle.pc_value.specs.declared.action.Outcome.{Outcome as RustOutcome}
use Rattle.pc_value.specs.declared.action.Outcome.TheVariants as rust_outcome
use Rattle.pc_value.specs.Value.{Exception, TypeError, AttributeError, NameError, UnboundLocalError, Raised, Other}
use Rattle.pc_value.specs.Value.{Outside, Cut, values_of}
use Rattle.pc_value.specs.Actions.{Action, number, binary, compare, negative, negation, truth_of, new_list, new_dict}
use Rattle.pc_value.specs.Actions.{new_instance, read_item, store_item, read_attribute, store_attribute, append, pop}
use Rattle.pc_value.specs.Actions.{get, length_of, text_of, iterate, iterate_range, turn, Iteration, over_list}
use Rattle.pc_value.specs.Actions.{over_dict, over_text, over_tuple, over_range, Outcome, gives, iterates, finished}
use Rattle.pc_value.specs.Actions.{stops, ActionResult}
use Rattle.pc_value.specs.Numbers.{number_of_digits, negative_of_digits}
use Rattle.pc_source.specs.declared.fault.OutOfMemory.{OutOfMemory}
use Rattle.pc_value.specs.declared.value.Heap.{Heap as RustHeap}
use Rattle.pc_value.specs.Meaning.{value_of, entry_of, slot_of, heap_of}

-- one of the four exceptions, as the program represents it
abbrev pub exception_of : RustException → Exception
exception_of rust_exception.TypeError = TypeError
exception_of rust_exception.AttributeError = AttributeError
exception_of rust_exception.NameError = NameError
exception_of rust_exception.UnboundLocalError = UnboundLocalError

-- the source of a `for`'s items, as the program holds it
abbrev pub iteration_of : RustIteration → Iteration
iteration_of (rust_iteration.List l) = over_list l
iteration_of (rust_iteration.Dict l size) = over_dict l size
iteration_of (rust_iteration.Text cs) = over_text cs.items
iteration_of (rust_iteration.Tuple items) = over_tuple (values_of (map value_of items.items))
iteration_of (rust_iteration.Range n) = over_range n

-- the outcome of an action, as the program represents it
abbrev pub outcome_of : RustOutcome → Outcome
outcome_of (rust_outcome.Gives v) = gives (value_of v)
outcome_of (rust_outcome.Iterates over) = iterates (iteration_of over)
outcome_of rust_outcome.Finished = finished
outcome_of (rust_outcome.Raised e) = stops (Raised (exception_of e))
outcome_of rust_outcome.Other = stops Other
outcome_of rust_outcome.Outside = stops Outside
outcome_of rust_outcome.Cut = stops Cut

-- the value of decimal digits, negated if there is a `-`
abbrev pub written_number : Bool → List ℕ → ℤ
written_number false digits = number_of_digits digits
written_number true digits = negative_of_digits digits

-- an action with its operands, as the program holds it
abbrev pub action_of : RustAction → Action
action_of (rust.Number below digits) = number (written_number below (string_bytes digits))
action_of (rust.Binary operator v w) = binary operator (value_of v) (value_of w)
action_of (rust.Compare operator v w) = compare operator (value_of v) (value_of w)
action_of (rust.Negative v) = negative (value_of v)
action_of (rust.Not v) = negation (value_of v)
action_of (rust.Truth v) = truth_of (value_of v)
action_of (rust.NewList items) = new_list (map value_of items.items)
action_of (rust.NewDict entries) = new_dict (map entry_of entries.items)
action_of (rust.NewInstance class fields) = new_instance class (map slot_of fields.items)
action_of (rust.ReadItem o k) = read_item (value_of o) (value_of k)
action_of (rust.StoreItem o k v) = store_item (value_of o) (value_of k) (value_of v)
action_of (rust.ReadAttribute o name is_method) = read_attribute (value_of o) (string_bytes name) is_method
action_of (rust.StoreAttribute o name v) = store_attribute (value_of o) (string_bytes name) (value_of v)
action_of (rust.Append o v) = append (value_of o) (value_of v)
action_of (rust.Pop o) = pop (value_of o)
action_of (rust.Get o k) = get (value_of o) (value_of k)
action_of (rust.Length v) = length_of (value_of v)
action_of (rust.Text v) = text_of (value_of v)
action_of (rust.Iterate v) = iterate (value_of v)
action_of (rust.IterateRange v) = iterate_range (value_of v)
action_of (rust.Turn over i) = turn (iteration_of over) i

-- an action has this result, an outcome and a heap; if an allocation failed, the heap is unchanged
abbrev pub ComesTo : Result RustOutcome OutOfMemory → RustHeap → RustHeap → ActionResult → Type 0
ComesTo (Ok o) old new a = (outcome_of o ≡ a.outcome) × (heap_of new ≡ a.heap)
ComesTo (Err e) old new a = heap_of new ≡ heap_of old
