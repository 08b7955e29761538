-- Callees, and the binding of arguments to parameters.
-- Language Reference 6.3.4 "Calls", 8.7 "Function definitions", 3.2.8.2 "Instance methods".
use Rattle.std.specs.Prelude.{ℕ, Bool, true, false, ◌&&◌, ◌||◌, nat_eq, List, [], ◌∷◌, if◌then◌else◌, Option, Some}
use Rattle.std.specs.Prelude.{None, slice_get, codes}
use Rattle.pc_tree.specs.Tree.{Expr, name}
use Rattle.pc_value.specs.Value.{Value, whole, boolean, string, Slot, Out, Gives, Stops, Raised, TypeError}
use Rattle.pc_value.specs.Value.{UnboundLocalError, NameError, Outside, Seen, a_list, a_dict, seen, class_number_of}
use Rattle.pc_value.specs.Value.{is_list}
use Rattle.pc_value.specs.Texts.{same_text}
use Rattle.pc_value.specs.Actions.{Action, append, pop, get, length_of, text_of}
use Rattle.pc_machine.specs.State.{State, FormalParameter, Function, Class, Local}
use Rattle.pc_machine.specs.Names.{Meaning, means_value, means_unbound, means_function, means_class, means_reserved}
use Rattle.pc_machine.specs.Names.{means_nothing, meaning_in_run}

-- the built-in methods of lists and dicts
pub data BuiltinMethod : Type 0 where
  list_append list_pop dict_get : BuiltinMethod

-- the meaning of a callee
pub data Callee : Type 0 where
  calls_value : (value : Value) → Callee
  calls_function : (function : Function) → Callee
  calls_class : (class : ℕ) → Callee
  calls_reserved : (name : List ℕ) → Callee
  calls_method : (object : Value) (method : Function) → Callee
  calls_builtin_method : (object : Value) (method : BuiltinMethod) → Callee

-- a callee, given the meaning of its name
abbrev pub callee_of_meaning : List ℕ → Meaning → Out Callee
callee_of_meaning n (means_value v) = Gives (calls_value v)
callee_of_meaning n means_unbound = Stops (Raised UnboundLocalError)
callee_of_meaning n (means_function f) = Gives (calls_function f)
callee_of_meaning n (means_class c) = Gives (calls_class c)
callee_of_meaning n means_reserved = Gives (calls_reserved n)
callee_of_meaning n means_nothing = Stops (Raised NameError)

-- the value of a name, given its meaning: a function, a class and a reserved name are out of the profile
abbrev pub value_of_meaning : Meaning → Out Value
value_of_meaning (means_value v) = Gives v
value_of_meaning means_unbound = Stops (Raised UnboundLocalError)
value_of_meaning (means_function f) = Stops Outside
value_of_meaning (means_class c) = Stops Outside
value_of_meaning means_reserved = Stops Outside
value_of_meaning means_nothing = Stops (Raised NameError)

-- the first method with a name
abbrev pub method_among : List ℕ → List Function → Option Function
method_among m [] = None
method_among m (f ∷ rest) = if same_text f.name.text m then Some f else method_among m rest

-- the method of a name in a class, if there is a class and it has one
abbrev pub method_of_class : List ℕ → Option Class → Option Function
method_of_class m None = None
method_of_class m (Some c) = method_among m c.methods

-- the class with a number among those made so far
abbrev pub class_at : List Class → Option ℕ → Option Class
class_at classes None = None
class_at classes (Some c) = slice_get classes c

-- the method of a name in an object's class, its own or the nearest ancestor's
abbrev pub method_of : State → Value → List ℕ → Option Function
method_of s v m = method_of_class m (class_at s.classes (class_number_of s.heap v))

-- the built-in method with a name of a list or a dict
abbrev pub builtin_method_of : Seen → List ℕ → Option BuiltinMethod
builtin_method_of (a_list l items) m = if same_text m (codes "append") then Some list_append
    else if same_text m (codes "pop") then Some list_pop else None
builtin_method_of (a_dict l entries) m = if same_text m (codes "get") then Some dict_get else None
builtin_method_of v m = None

-- an object's method as a callee: its class's method, else a built-in one
abbrev pub callee_of_method : Value → Option Function → Option BuiltinMethod → Option Callee
callee_of_method v (Some f) b = Some (calls_method v f)
callee_of_method v None (Some b) = Some (calls_builtin_method v b)
callee_of_method v None None = None

-- the method that `e.m` names as a callee, if it names one
abbrev pub named_method : State → Value → List ℕ → Option Callee
named_method s v m = callee_of_method v (method_of s v m) (builtin_method_of (seen s.heap v) m)

-- an argument by name
pub record NamedValue : Type 0 where
  pub name : List ℕ
  pub value : Value

-- the value of the first argument given by this name
abbrev pub value_named : List ℕ → List NamedValue → Option Value
value_named n [] = None
value_named n (a ∷ rest) = if same_text a.name n then Some a.value else value_named n rest

-- whether one of the parameters has this name
abbrev pub is_parameter : List ℕ → List FormalParameter → Bool
is_parameter n [] = false
is_parameter n (p ∷ rest) = same_text p.name n || is_parameter n rest

-- whether each argument given by name is for a parameter
abbrev pub are_parameters : List NamedValue → List FormalParameter → Bool
are_parameters [] parameters = true
are_parameters (a ∷ rest) parameters = is_parameter a.name parameters && are_parameters rest parameters

-- the first of two values if there is one, else the second
abbrev pub first_some : {A : Type 0} → Option A → Option A → Option A
first_some (Some a) second = Some a
first_some None second = second

-- the value of a parameter: its argument by position, else by name, else its default; none if it has both arguments
abbrev pub value_taken : FormalParameter → Option Value → Option Value → Option Value
value_taken p (Some v) (Some w) = None
value_taken p (Some v) None = Some v
value_taken p None by_name = first_some by_name p.default

-- the value of one parameter before those of the others
abbrev pub and_others : FormalParameter → Option Value → Option (List Local) → Option (List Local)
and_others p None others = None
and_others p (Some v) None = None
and_others p (Some v) (Some others) = Some (record { name = p.name; value = Some v } ∷ others)

-- the parameters with their values, in order; none if one has no value or an argument by position is left over
abbrev pub filled_parameters : List FormalParameter → List Value → List NamedValue → Option (List Local)
filled_parameters [] [] named = Some []
filled_parameters [] (v ∷ values) named = None
filled_parameters (p ∷ rest) [] named =
    and_others p (value_taken p None (value_named p.name named)) (filled_parameters rest [] named)
filled_parameters (p ∷ rest) (v ∷ values) named =
    and_others p (value_taken p (Some v) (value_named p.name named)) (filled_parameters rest values named)

-- the parameters with their values; none if the arguments do not match them
abbrev pub bound_arguments : List FormalParameter → List Value → List NamedValue → Option (List Local)
bound_arguments parameters values named = if are_parameters named parameters
    then filled_parameters parameters values named else None

-- the bound arguments, or TypeError if they do not match
abbrev pub or_type_error : Option (List Local) → Out (List Local)
or_type_error None = Stops (Raised TypeError)
or_type_error (Some locals) = Gives locals

-- a field before others, if it has a value
abbrev pub slot_before : List ℕ → Option Value → List Slot → List Slot
slot_before n None rest = rest
slot_before n (Some v) rest = record { name = n; value = v } ∷ rest

-- the fields of a new instance, one for each local that has a value
abbrev pub slots_of : List Local → List Slot
slots_of [] = []
slots_of (l ∷ rest) = slot_before l.name l.value (slots_of rest)

-- the action of a call of a built-in method; a wrong count of arguments, or one by name, is out of the profile
abbrev pub builtin_method_action : Value → BuiltinMethod → List Value → List NamedValue → Out Action
builtin_method_action o list_append (v ∷ []) [] = Gives (append o v)
builtin_method_action o list_pop [] [] = Gives (pop o)
builtin_method_action o dict_get (k ∷ []) [] = Gives (get o k)
builtin_method_action o method values named = Stops Outside

-- a call of a reserved name with evaluated arguments: `print` does nothing, `len` and `str` perform an action; a wrong
-- count is TypeError for `len` and `isinstance` and out of the profile for `str`; other reserved names, `range` outside
-- a `for` among them, and arguments by name are out of the profile
pub data ReservedCall : Type 0 where
  prints : ReservedCall
  performs : (action : Action) → ReservedCall

-- `len` of one argument; another count is TypeError
abbrev pub length_call : List Value → Out ReservedCall
length_call (v ∷ []) = Gives (performs (length_of v))
length_call values = Stops (Raised TypeError)

-- `str` of one argument; another count is out of the profile
abbrev pub text_call : List Value → Out ReservedCall
text_call (v ∷ []) = Gives (performs (text_of v))
text_call values = Stops Outside

-- a call of a reserved name with these arguments: its effect, or the way it stops the run
abbrev pub reserved_call : List ℕ → List Value → List NamedValue → Out ReservedCall
reserved_call n values (a ∷ rest) = Stops Outside
reserved_call n values [] = if same_text n (codes "print") then Gives prints else if same_text n (codes "len")
    then length_call values else if same_text n (codes "str") then text_call values
    else if same_text n (codes "isinstance") then Stops (Raised TypeError) else Stops Outside

-- the limit of `range(..)` in a `for`, from one argument by position
abbrev pub range_argument : List Value → List NamedValue → Out Value
range_argument (v ∷ []) [] = Gives v
range_argument values named = Stops Outside

-- a test of `isinstance`
pub data InstanceTest : Type 0 where
  tests_int tests_str tests_bool tests_list : InstanceTest
  tests_class : (class : ℕ) → InstanceTest

-- the test of a reserved name: `int`, `str`, `bool` or `list`; any other name is out of the profile
abbrev pub test_of_reserved : List ℕ → Out InstanceTest
test_of_reserved n = if same_text n (codes "int") then Gives tests_int else if same_text n (codes "str")
    then Gives tests_str else if same_text n (codes "bool") then Gives tests_bool else if same_text n (codes "list")
    then Gives tests_list else Stops Outside

-- the test of a name, given its meaning: a class of the module or a reserved name
abbrev pub test_of_meaning : List ℕ → Meaning → Out InstanceTest
test_of_meaning n (means_class c) = Gives (tests_class c)
test_of_meaning n means_reserved = test_of_reserved n
test_of_meaning n m = Stops Outside

-- the test of the second argument of `isinstance`, which must be a name
abbrev pub instance_test_of : Expr → State → Out InstanceTest
instance_test_of (name n) s = test_of_meaning n.text (meaning_in_run n.text s)
instance_test_of e s = Stops Outside

-- whether this number is among those of a class and its ancestors
abbrev pub is_ancestor : ℕ → List ℕ → Bool
is_ancestor c [] = false
is_ancestor c (d ∷ rest) = nat_eq d c || is_ancestor c rest

-- whether a class, if there is one, is the class of this number or descends from it
abbrev pub descends_from : ℕ → Option Class → Bool
descends_from c None = false
descends_from c (Some d) = is_ancestor c d.ancestors

-- whether a value passes a test; bool counts as int
abbrev pub passes : State → Value → InstanceTest → Bool
passes s (whole n) tests_int = true
passes s (boolean b) tests_int = true
passes s (boolean b) tests_bool = true
passes s (string cs) tests_str = true
passes s v tests_list = is_list (seen s.heap v)
passes s v (tests_class c) = descends_from c (class_at s.classes (class_number_of s.heap v))
passes s v test = false
