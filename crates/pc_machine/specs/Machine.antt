-- The tracer's machine as a plain run so far, and the results of its steps.
-- Own rule of the profile.
use Rattle.std.specs.Prelude.{◌≡◌, ℤ, true, List, ◌∷◌, map, if◌then◌else◌, Option, Some, None, Result, Ok, Err, chars}
use Rattle.std.specs.Prelude.{Vec}
use Rattle.std.specs.Global.{Global as Allocator}
use Rattle.std.specs.Borrow.{Bor}
use Rattle.pc_tree.specs.Tree.{Literal, number_literal, negative_literal, text_literal, truth_literal, none_literal}
use Rattle.pc_tree.specs.Tree.{Param, FuncDef, func_of, literal_of}
use Rattle.pc_tree.specs.declared.tree.Literal.{Literal as RustLiteral}
use Rattle.pc_tree.specs.declared.tree.FuncDef.{FuncDef as RustFuncDef}
use Rattle.pc_value.specs.Value.{Value, whole, boolean, string, none, Out, Gives, Stops}
use Rattle.pc_value.specs.Actions.{Action}
use Rattle.pc_value.specs.Numbers.{number_of_digits, negative_of_digits, fits}
use Rattle.pc_value.specs.Meaning.{value_of, heap_of}
use Rattle.pc_value.specs.Doing.{outcome_of, exception_of}
use Rattle.pc_value.specs.Value.{Stop, Raised, Other, Outside, Cut}
use Rattle.pc_machine.specs.declared.halt.Stop.{Stop as RustStop}
use Rattle.pc_machine.specs.declared.halt.Stop.TheVariants as rust_stop
use Rattle.pc_value.specs.Plain.{plainly_acted}
use Rattle.pc_value.specs.Outcomes.{takes_choice}
use Rattle.pc_value.specs.declared.value.Value.{Value as RustValue}
use Rattle.pc_value.specs.declared.action.Outcome.{Outcome as RustOutcome}
use Rattle.pc_machine.specs.State.{State, FormalParameter, Function, Class, GlobalBinding, a_value, a_function, a_class}
use Rattle.pc_machine.specs.State.{Global, Local, Frame}
use Rattle.pc_machine.specs.Calls.{NamedValue, Callee, calls_value, calls_function, calls_class, calls_reserved}
use Rattle.pc_machine.specs.Calls.{calls_method, calls_builtin_method, BuiltinMethod, list_append, list_pop, dict_get}
use Rattle.pc_machine.specs.Calls.{InstanceTest, tests_int, tests_str, tests_bool, tests_list, tests_class}
use Rattle.pc_machine.specs.Evaluation.{self_local}
use Rattle.pc_machine.specs.declared.state.Callee.{Callee as RustCallee}
use Rattle.pc_machine.specs.declared.state.Callee.TheVariants as rust_callee
use Rattle.pc_machine.specs.declared.state.InstanceTest.{InstanceTest as RustTest}
use Rattle.pc_machine.specs.declared.state.InstanceTest.TheVariants as rust_test
use Rattle.pc_machine.specs.declared.state.BuiltinMethod.{BuiltinMethod as RustBuiltinMethod}
use Rattle.pc_machine.specs.declared.state.BuiltinMethod.TheVariants as rust_method
use Rattle.pc_machine.specs.Names.{Meaning, means_value, means_unbound, means_function, means_class, means_reserved}
use Rattle.pc_machine.specs.Names.{means_nothing}
use Rattle.pc_machine.specs.Steps.{StatementEnd, next, breaking, continuing, leaves}
use Rattle.pc_machine.specs.Plain.{Progress, After, Came, Ended, later_choices, next_choice, after_action}
use Rattle.pc_machine.specs.declared.state.FormalParameter.{FormalParameter as RustParameter}
use Rattle.pc_machine.specs.declared.state.Class.{Class as RustClass}
use Rattle.pc_machine.specs.declared.state.Bound.{Bound as RustBound}
use Rattle.pc_machine.specs.declared.state.Bound.TheVariants as rust_bound
use Rattle.pc_machine.specs.declared.state.Global.{Global as RustGlobal}
use Rattle.pc_machine.specs.declared.state.Local.{Local as RustLocal}
use Rattle.pc_machine.specs.declared.state.NamedValue.{NamedValue as RustNamedValue}
use Rattle.pc_machine.specs.declared.state.Completion.{Completion as RustFlow}
use Rattle.pc_machine.specs.declared.state.Completion.TheVariants as rust_flow
use Rattle.pc_machine.specs.declared.state.Meaning.{Meaning as RustMeaning}
use Rattle.pc_machine.specs.declared.state.Meaning.TheVariants as rust_meaning
use Rattle.pc_machine.specs.declared.halt.Halt.{Halt}
use Rattle.pc_machine.specs.declared.halt.Halt.TheVariants as halt
use Rattle.pc_machine.specs.declared.machine.Machine.{Machine}

-- ---- functions and defaults

-- a whole number that fits 128 signed bits, as a value
abbrev pub number_within : ℤ → Option Value
number_within n = if fits n then Some (whole n) else None

-- the value of a literal; a whole number has one if it fits
abbrev pub literal_value : Literal → Option Value
literal_value (number_literal p digits) = number_within (number_of_digits digits)
literal_value (negative_literal p digits) = number_within (negative_of_digits digits)
literal_value (text_literal p bytes) = Some (string (chars bytes))
literal_value (truth_literal p b) = Some (boolean b)
literal_value (none_literal p) = Some none

-- the value of a default, if there is a default and it has a value
abbrev pub default_value : Option Literal → Option Value
default_value None = None
default_value (Some l) = literal_value l

-- a parameter with the value of its default
abbrev pub parameter_of_param : Param → FormalParameter
parameter_of_param p = record { name = p.name.text; default = default_value p.default }

-- the function that a def makes
abbrev pub function_of : FuncDef → Function
function_of f = record { name = f.name; parameters = map parameter_of_param f.params; body = f.body }

-- ---- states of the program

-- the value of a default that the program holds, if there is one and it has a value
abbrev pub default_of : Option (Bor RustLiteral) → Option Value
default_of None = None
default_of (Some l) = literal_value (literal_of l.now)

-- a parameter or a field with the value of its default, as the program holds it
abbrev pub parameter_of : RustParameter → FormalParameter
parameter_of p = record { name = p.name.now; default = default_of p.default }

-- the function or method that a def of the program makes
abbrev pub method_of_def : Bor RustFuncDef → Function
method_of_def f = function_of (func_of f.now)

-- a class with its ancestors, fields and methods, as the program holds it
abbrev pub class_of : RustClass → Class
class_of c = record {
  ancestors = c.ancestors.items;
  fields = map parameter_of c.fields.items;
  methods = map method_of_def c.methods.items;
}

-- the meaning of a name that the module binds, as the program holds it
abbrev pub bound_of : RustBound → GlobalBinding
bound_of (rust_bound.Value v) = a_value (value_of v)
bound_of (rust_bound.Function f) = a_function (function_of (func_of f.now))
bound_of (rust_bound.Class c) = a_class c

-- a name that the module has bound, as the program holds it
abbrev pub global_of : RustGlobal → Global
global_of g = record { name = g.name.now; is = bound_of g.bound }

-- a value that may be missing, as the program holds it
abbrev pub value_if_any : Option RustValue → Option Value
value_if_any None = None
value_if_any (Some v) = Some (value_of v)

-- a local with its value if it is bound, as the program holds it
abbrev pub local_of : RustLocal → Local
local_of l = record { name = l.name.now; value = value_if_any l.value }

-- an argument by name, as the program holds it
abbrev pub named_of : RustNamedValue → NamedValue
named_of a = record { name = a.name.now; value = value_of a.value }

-- the way a statement ends, as the program represents it
abbrev pub flow_of : RustFlow → StatementEnd
flow_of rust_flow.Next = next
flow_of rust_flow.Breaking = breaking
flow_of rust_flow.Continuing = continuing
flow_of (rust_flow.Leaves v) = leaves (value_of v)

-- the state of a run that a machine holds
abbrev pub state_of : Machine → State
state_of m = record {
  classes = map class_of m.classes.items;
  globals = map global_of m.globals.bindings.items;
  frame = map local_of m.frame.items;
  heap = heap_of m.heap;
}

-- the plain run so far that a machine holds
abbrev pub progress_of : Machine → Progress
progress_of m = record {
  state = state_of m;
  events = m.events.items;
  fuel = m.fuel;
  choices = m.choices.now;
  depth = m.depth.calls;
}

-- the way a run stops early, as the program represents it
abbrev pub stop_of : RustStop → Stop
stop_of (rust_stop.Raised e) = Raised (exception_of e)
stop_of rust_stop.Other = Other
stop_of rust_stop.Outside = Outside
stop_of rust_stop.Cut = Cut

-- ---- results of steps

-- a result of the program is that of a step, with the progress after it; a failed allocation is not constrained
abbrev pub TellsProgress : {A B : Type 0} → (A → B) → Result A Halt → Machine → After B → Type 0
TellsProgress view (Ok a) m l = l ≡ Came (view a) (progress_of m)
TellsProgress view (Err (halt.Stopped s)) m l = l ≡ Ended (stop_of s) (progress_of m)
TellsProgress view (Err (halt.OutOfMemory error)) m l = Unit {0}

-- the absence of a value
abbrev pub unit : Unit {0} → Unit {0}
unit u = tt

-- the progress after a choice byte is used up
abbrev pub after_choice : Progress → Progress
after_choice w = record w { choices = later_choices true w.choices }

-- the program's outcome, and the machine after it, are those of performing an action
pub record Performs (o : RustOutcome) (m : Machine) (a : Action) (w : Progress) : Type 0 where
  pub outcome : outcome_of o ≡ (plainly_acted (next_choice w.choices) a w.state.heap).outcome
  pub progress : progress_of m
      ≡ after_action (takes_choice w.state.heap a) (plainly_acted (next_choice w.choices) a w.state.heap).heap w

-- ---- names

-- the local that the program found, if any, with its value if it is bound
abbrev pub found_local : Option (Bor RustLocal) → Option (Option Value)
found_local None = None
found_local (Some l) = Some (value_if_any l.now.value)

-- the binding of the module that the program found, if any
abbrev pub found_global : Option (Bor RustBound) → Option GlobalBinding
found_global None = None
found_global (Some b) = Some (bound_of b.now)

-- the meaning of a name, as the program represents it
abbrev pub meaning_seen : RustMeaning → Meaning
meaning_seen (rust_meaning.Value v) = means_value (value_of v.now)
meaning_seen rust_meaning.Unbound = means_unbound
meaning_seen (rust_meaning.Function f) = means_function (method_of_def f)
meaning_seen (rust_meaning.Class c) = means_class c
meaning_seen rust_meaning.Reserved = means_reserved
meaning_seen rust_meaning.Nothing = means_nothing

-- ---- calls

-- the parameters with their values that the program collected, if the arguments matched
abbrev pub locals_of : Option (Vec RustLocal Allocator) → Option (List Local)
locals_of None = None
locals_of (Some ls) = Some (map local_of ls.items)

-- the locals of a frame, as the program holds them
abbrev pub frame_of_vec : Vec RustLocal Allocator → Frame
frame_of_vec ls = map local_of ls.items

-- a built-in method, as the program represents it
abbrev pub method_seen : RustBuiltinMethod → BuiltinMethod
method_seen rust_method.ListAppend = list_append
method_seen rust_method.ListPop = list_pop
method_seen rust_method.DictGet = dict_get

-- a callee, as the program represents it
abbrev pub callee_seen : RustCallee → Callee
callee_seen (rust_callee.Value v) = calls_value (value_of v)
callee_seen (rust_callee.Function f) = calls_function (method_of_def f)
callee_seen (rust_callee.Class c) = calls_class c
callee_seen (rust_callee.Reserved n) = calls_reserved n.now
callee_seen (rust_callee.Method o f) = calls_method (value_of o) (method_of_def f)
callee_seen (rust_callee.BuiltinMethod o m) = calls_builtin_method (value_of o) (method_seen m)

-- the method that the program found, if any
abbrev pub found_method : Option (Bor RustFuncDef) → Option Function
found_method None = None
found_method (Some f) = Some (method_of_def f)

-- the class that the program found, if any
abbrev pub found_class : Option (Bor RustClass) → Option Class
found_class None = None
found_class (Some c) = Some (class_of c.now)

-- the built-in method that the program found, if any
abbrev pub found_builtin : Option RustBuiltinMethod → Option BuiltinMethod
found_builtin None = None
found_builtin (Some m) = Some (method_seen m)

-- a test of `isinstance`, as the program represents it
abbrev pub test_seen : RustTest → InstanceTest
test_seen rust_test.Int = tests_int
test_seen rust_test.Str = tests_str
test_seen rust_test.Bool = tests_bool
test_seen rust_test.List = tests_list
test_seen (rust_test.Class c) = tests_class c

-- the locals of a call, which begin with the object for a method
abbrev pub with_object : Option Value → List Local → List Local
with_object None locals = locals
with_object (Some object) locals = self_local object ∷ locals

-- a result of the program is this value or stop; a failed allocation is not constrained
abbrev pub TellsOutcome : {A B : Type 0} → (A → B) → Result A Halt → Out B → Type 0
TellsOutcome view (Ok a) out = out ≡ Gives (view a)
TellsOutcome view (Err (halt.Stopped s)) out = out ≡ Stops (stop_of s)
TellsOutcome view (Err (halt.OutOfMemory error)) out = Unit {0}
