-- Steps of a plain run that evaluate no further expression: whole nodes, and parts of others.
-- Own rule of the profile.
use Rattle.std.specs.Prelude.{ℕ, Bool, true, false, nat_eq, List, ◌∷◌, Option, Some, None}
use Rattle.pc_tree.specs.Tree.{Expr, Stmts, no_stmts, more_stmts}
use Rattle.pc_value.specs.Value.{Value, boolean, Cut}
use Rattle.pc_value.specs.Actions as action
use Rattle.pc_value.specs.Actions.{Iteration}
use Rattle.pc_machine.specs.State.{Function, Frame}
use Rattle.pc_machine.specs.Names.{frame_of}
use Rattle.pc_machine.specs.Calls.{Callee, NamedValue, named_method, bound_arguments, or_type_error, range_argument}
use Rattle.pc_machine.specs.Calls.{instance_test_of, passes}
use Rattle.pc_machine.specs.Steps.{StatementEnd, next, value_out, iteration_out}
use Rattle.pc_machine.specs.Plain.{Came, Ended, Step, and_then, comes, charge, after_event, after_entry, call_limit}
use Rattle.pc_machine.specs.Plain.{plain, act}
use Rattle.pc_machine.specs.Runs.{plain_parts}
use Rattle.pc_machine.specs.Evaluation as text
use Rattle.pc_machine.specs.Evaluation.{self_local}

-- the evaluation of a callee
abbrev pub callee_in : ℕ → Expr → Step Callee
callee_in n e = text.eval_callee Step plain (plain_parts n) e

-- a call of a callee with its arguments
abbrev pub callee_called : ℕ → Callee → List Value → List NamedValue → Step Value
callee_called n callee values named = text.call_callee Step plain (plain_parts n) callee values named

-- the callee of `e.m`, once e has its value and its event is recorded
abbrev pub attribute_callee : Value → List ℕ → Step Callee
attribute_callee v m w = text.callee_of_attribute Step plain v m (named_method w.state v m) w

-- the value of `isinstance(e, T)`, once e has its value and its event is recorded
abbrev pub instance_tested : Value → Expr → Step Value
instance_tested v t w = and_then (comes (instance_test_of t w.state) w)
    (λ test v'. Came (boolean (passes v'.state v test)) v')

-- the store of `e.f = v`, once v and e have their values and its event is recorded
abbrev pub attribute_stored : Value → List ℕ → Value → Step StatementEnd
attribute_stored o f v w = and_then (act value_out (action.store_attribute o f v) w) (λ stored w'. Came next w')

-- the store of `e[i] = v`, once v, e and i have their values and its event is recorded
abbrev pub item_stored : Value → Value → Value → Step StatementEnd
item_stored o k v w = and_then (act value_out (action.store_item o k v) w) (λ stored w'. Came next w')

-- the source of a `for`'s items at `range(..)`, once the arguments have their values and its event is recorded
abbrev pub range_begun : List Value → List NamedValue → Step Iteration
range_begun values named w =
    and_then (comes (range_argument values named) w) (λ limit w'. act iteration_out (action.iterate_range limit) w')

-- the charge for an empty suite of a loop, the same as for `pass`
abbrev pub empty_charged : Stmts → Step (Unit {0})
empty_charged no_stmts w = charge w
empty_charged (more_stmts s rest) w = Came tt w

-- a frame is entered unless the call limit is reached; the result is the caller's frame
abbrev pub entered_unless : Bool → Frame → Step Frame
entered_unless true frame w = Ended Cut w
entered_unless false frame w = Came w.state.frame (after_entry frame w)

-- a function, or a method with its object, is entered with its arguments; the result is the caller's frame
abbrev pub opened_frame : Function → Option Value → List Value → List NamedValue → Step Frame
opened_frame f None values named w =
    and_then (comes (or_type_error (bound_arguments f.parameters values named)) w)
    (λ arguments w'. entered_unless (nat_eq w'.depth call_limit) (frame_of f arguments) w')
opened_frame f (Some object) values named w =
    and_then (comes (or_type_error (bound_arguments f.parameters values named)) w)
    (λ arguments w'. and_then
    (entered_unless (nat_eq w'.depth call_limit) (frame_of f (self_local object ∷ arguments)) w')
    (λ caller w''. Came caller (after_event f.name.place w'')))
