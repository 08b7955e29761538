-- The run model: the evaluation of expressions, the execution of statements, then the items of a module and `main`.
-- Language Reference 4 "Execution model", 6 "Expressions", 7 "Simple statements", 8 "Compound statements"; events,
-- charges and ends: own rules of the profile.
use Rattle.std.specs.Prelude.{ℕ, zero, suc, Bool, true, false, not, List, [], ◌∷◌, ◌++◌, length, if◌then◌else◌, Option}
use Rattle.std.specs.Prelude.{Some, None, is_some, codes, chars}
use Rattle.pc_source.specs.declared.place.Place.{Place}
use Rattle.pc_tree.specs.Tree.{Name, Expr, name, number, text, truth, nothing, tuple, list, dict, negative, negation}
use Rattle.pc_tree.specs.Tree.{binary, compare, is_none, is_not_none, conjunction, disjunction, attribute, index, call}
use Rattle.pc_tree.specs.Tree.{Exprs, no_exprs, more_exprs, Entries, no_entries, more_entries, Keywords, no_keywords}
use Rattle.pc_tree.specs.Tree.{more_keywords, Target, to_name, to_attribute, to_index, Literal, number_literal}
use Rattle.pc_tree.specs.Tree.{negative_literal, text_literal, truth_literal, none_literal, Stmt, pass, breaks}
use Rattle.pc_tree.specs.Tree.{continues, returns, asserts, annotated, assigns, evaluates, while_loop, for_loop}
use Rattle.pc_tree.specs.Tree.{conditional, Stmts, no_stmts, more_stmts, Branches, no_branches, more_branches, Param}
use Rattle.pc_tree.specs.Tree.{FuncDef, Member, field_member, method_member, ClassDef, Item, constant_item, class_item}
use Rattle.pc_tree.specs.Tree.{def_item, Module}
use Rattle.pc_value.specs.Value as value
use Rattle.pc_value.specs.Value.{Value, whole, boolean, string, tuple_of, location, values_of, DictEntry, is_true, Stop}
use Rattle.pc_value.specs.Value.{Raised, Other, Outside, Cut, TypeError, NameError, Out, Gives, Stops}
use Rattle.pc_value.specs.Actions as action
use Rattle.pc_value.specs.Actions.{Action, Iteration}
use Rattle.pc_value.specs.Numbers.{number_of_digits, negative_of_digits}
use Rattle.pc_value.specs.Texts.{same_text}
use Rattle.pc_machine.specs.State.{State, FormalParameter, Function, Class, GlobalBinding, a_value, a_function, a_class}
use Rattle.pc_machine.specs.State.{Local}
use Rattle.pc_machine.specs.Names.{Meaning, means_class, means_nothing, meaning_in_run, with_local, frame_of}
use Rattle.pc_machine.specs.Calls.{Callee, calls_value, calls_function, calls_class, calls_reserved, calls_method}
use Rattle.pc_machine.specs.Calls.{calls_builtin_method, callee_of_meaning, value_of_meaning, method_of, named_method}
use Rattle.pc_machine.specs.Calls.{class_at, NamedValue, bound_arguments, or_type_error, slots_of}
use Rattle.pc_machine.specs.Calls.{builtin_method_action, ReservedCall, prints, performs, reserved_call, range_argument}
use Rattle.pc_machine.specs.Calls.{instance_test_of, passes}
use Rattle.pc_machine.specs.Steps.{Interpretation, Parts, StatementEnd, next, breaking, continuing, leaves, value_out}
use Rattle.pc_machine.specs.Steps.{iteration_out, item_out}

-- whether a value is None
abbrev pub is_none_value : Value → Bool
is_none_value value.none = true
is_none_value v = false

-- the value of a call, given the way the body ended
abbrev pub value_of_flow : StatementEnd → Value
value_of_flow next = value.none
value_of_flow breaking = value.none
value_of_flow continuing = value.none
value_of_flow (leaves v) = v

-- the form of a call: a test `isinstance(e, T)` with exactly two arguments by position, or an ordinary call
pub data CallForm : Type 0 where
  instance_test : (callee : Name) (object test : Expr) → CallForm
  ordinary : CallForm

-- the form of a call, by its callee and its arguments
abbrev pub call_form : Expr → Exprs → Keywords → CallForm
call_form (name n) (more_exprs e (more_exprs t no_exprs)) no_keywords = if same_text n.text (codes "isinstance")
    then instance_test n e t else ordinary
call_form callee arguments by_name = ordinary

-- the form of a `for`'s iterable: a call of `range`, or any other expression
pub data IterableForm : Type 0 where
  range_call : (place : Place) (callee : Name) (arguments : Exprs) (keywords : Keywords) → IterableForm
  any_iterable : IterableForm

-- the form of a `for`'s iterable, given its expression
abbrev pub iterable_form : Expr → IterableForm
iterable_form (call p (name n) arguments keywords) = if same_text n.text (codes "range")
    then range_call p n arguments keywords else any_iterable
iterable_form e = any_iterable

-- `self` as a local of a method
abbrev pub self_local : Value → Local
self_local v = record { name = codes "self"; value = Some v }

-- the fields of a class
abbrev pub fields_of : Option Class → List FormalParameter
fields_of None = []
fields_of (Some c) = c.fields

-- the methods of a class
abbrev pub methods_of : Option Class → List Function
methods_of None = []
methods_of (Some c) = c.methods

-- the numbers of a class and its ancestors
abbrev pub ancestors_of : Option Class → List ℕ
ancestors_of None = []
ancestors_of (Some c) = c.ancestors

-- the use of `@dataclass`, which is NameError if it is not imported
abbrev pub dataclass_found : Bool → Out (Unit {0})
dataclass_found true = Gives tt
dataclass_found false = Stops (Raised NameError)

-- the base of a class, given the meaning of its name: a name bound to nothing is NameError, any but a class out of the
-- profile
abbrev pub base_of_meaning : Meaning → Out (Option ℕ)
base_of_meaning (means_class c) = Gives (Some c)
base_of_meaning means_nothing = Stops (Raised NameError)
base_of_meaning m = Stops Outside

-- the number of the base that a class names, if any
abbrev pub base_number : Option Name → State → Out (Option ℕ)
base_number None s = Gives None
base_number (Some n) s = base_of_meaning (meaning_in_run n.text s)

-- whether each of these fields has a default
abbrev pub all_have_defaults : List FormalParameter → Bool
all_have_defaults [] = true
all_have_defaults (p ∷ rest) = if is_some p.default then all_have_defaults rest else false

-- whether the parameters with a default come after all others
abbrev pub defaults_last : List FormalParameter → Bool
defaults_last [] = true
defaults_last (p ∷ rest) = if is_some p.default then all_have_defaults rest else defaults_last rest

-- TypeError for a field without default after one with default
abbrev pub defaults_in_order : List FormalParameter → Out (Unit {0})
defaults_in_order fields = if defaults_last fields then Gives tt else Stops (Raised TypeError)

-- the fields and methods that a class defines itself
pub record Members : Type 0 where
  pub fields : List FormalParameter
  pub methods : List Function

-- a class with this number, given its base and its own members
abbrev pub class_behind : Option Class → Members → ℕ → Class
class_behind base own n = record {
  ancestors = n ∷ ancestors_of base;
  fields = fields_of base ++ own.fields;
  methods = own.methods ++ methods_of base;
}

-- the state after a local is bound
abbrev pub binds_local : List ℕ → Value → State → State
binds_local n v s = record s { frame = with_local n v s.frame }

-- the state after the module binds a name
abbrev pub binds_global : List ℕ → GlobalBinding → State → State
binds_global n b s = record s { globals = s.globals ++ record { name = n; is = b } ∷ [] }

-- the state after a class is made and its name bound to its number
abbrev pub binds_class : List ℕ → Class → State → State
binds_class n c s = record s {
  classes = s.classes ++ c ∷ [];
  globals = s.globals ++ record { name = n; is = a_class (length s.classes) } ∷ [];
}

module _ {ℓ} (Step : Type 0 → Type ℓ) (reading : Interpretation Step) where
  infixl 20 ◌>>=◌ ◌>>◌
  open reading use {pure, ◌>>=◌, stop, charge, emit, look, change, act, enter}

  -- one step and then another that ignores its value
  abbrev pub ◌>>◌ : {A B : Type 0} → Step A → Step B → Step B
  m >> n = m >>= λ a. n

  -- a step that gives this value or stop
  abbrev pub result_step : {A : Type 0} → Out A → Step A
  result_step out = look (λ s. out)

  -- the first step if the truth value is true, else the second
  abbrev pub choose : {A : Type 0} → Bool → Step A → Step A → Step A
  choose true first second = first
  choose false first second = second

  -- the truth of a value in the current state
  abbrev pub condition : Value → Step Bool
  condition v = look (λ s. Gives (is_true s.heap v))

  -- ---- expressions

  -- operands, arguments and items, from left to right
  abbrev pub eval_all : (Expr → Step Value) → Exprs → Step (List Value)
  eval_all eval no_exprs = pure []
  eval_all eval (more_exprs e rest) = do
    v ← eval e
    values ← eval_all eval rest
    pure (v ∷ values)

  -- the entries of a dict display: key, value, key, value
  abbrev pub eval_entries : (Expr → Step Value) → Entries → Step (List DictEntry)
  eval_entries eval no_entries = pure []
  eval_entries eval (more_entries key e rest) = do
    k ← eval key
    v ← eval e
    entries ← eval_entries eval rest
    pure (record { key = k; value = v } ∷ entries)

  -- arguments by name, in the order of the text
  abbrev pub eval_keywords : (Expr → Step Value) → Keywords → Step (List NamedValue)
  eval_keywords eval no_keywords = pure []
  eval_keywords eval (more_keywords n e rest) = do
    v ← eval e
    named ← eval_keywords eval rest
    pure (record { name = n.text; value = v } ∷ named)

  -- the callee of `e.m`: its method if there is one, else the value of reading `e.m`
  abbrev pub callee_of_attribute : Value → List ℕ → Option Callee → Step Callee
  callee_of_attribute v m (Some callee) = pure callee
  callee_of_attribute v m None = do
    field ← act value_out (action.read_attribute v m false)
    pure (calls_value field)

  -- a callee: a name or attribute is looked up, with its event, before the arguments
  abbrev pub eval_callee : Parts Step → Expr → Step Callee
  eval_callee parts (name n) = do
    charge
    emit n.place
    look (λ s. callee_of_meaning n.text (meaning_in_run n.text s))
  eval_callee parts (attribute p e m) = do
    charge
    v ← parts.eval e
    emit p
    method ← look (λ s. Gives (named_method s v m.text))
    callee_of_attribute v m.text method
  eval_callee parts e = do
    v ← parts.eval e
    pure (calls_value v)

  -- a call of a function, in a frame of its own
  abbrev pub call_function : Parts Step → Function → List Value → List NamedValue → Step Value
  call_function parts f values named = do
    arguments ← result_step (or_type_error (bound_arguments f.parameters values named))
    flow ← enter (frame_of f arguments) (parts.exec f.body)
    pure (value_of_flow flow)

  -- a call of a method, with its object as `self`; its name's event comes at entry
  abbrev pub call_method : Parts Step → Value → Function → List Value → List NamedValue → Step Value
  call_method parts object f values named = do
    arguments ← result_step (or_type_error (bound_arguments f.parameters values named))
    flow ← enter (frame_of f (self_local object ∷ arguments)) (emit f.name.place >> parts.exec f.body)
    pure (value_of_flow flow)

  -- a call of a class makes an instance, its fields from the arguments
  abbrev pub call_class : ℕ → List Value → List NamedValue → Step Value
  call_class c values named = do
    fields ← look (λ s. Gives (fields_of (class_at s.classes (Some c))))
    arguments ← result_step (or_type_error (bound_arguments fields values named))
    act value_out (action.new_instance c (slots_of arguments))

  -- the value of a call of a reserved name: None for `print`, else the value of its action
  abbrev pub do_reserved : ReservedCall → Step Value
  do_reserved prints = pure value.none
  do_reserved (performs a) = act value_out a

  -- a call of a callee with evaluated arguments
  abbrev pub call_callee : Parts Step → Callee → List Value → List NamedValue → Step Value
  call_callee parts (calls_value v) values named = stop (Raised TypeError)
  call_callee parts (calls_function f) values named = call_function parts f values named
  call_callee parts (calls_class c) values named = call_class c values named
  call_callee parts (calls_reserved n) values named = do
    reserved ← result_step (reserved_call n values named)
    do_reserved reserved
  call_callee parts (calls_method object f) values named = call_method parts object f values named
  call_callee parts (calls_builtin_method object method) values named = do
    a ← result_step (builtin_method_action object method values named)
    act value_out a

  -- a call: the callee, the arguments, its event, its action; the second argument of `isinstance` is not evaluated
  abbrev pub eval_call : Parts Step → Place → Expr → Exprs → Keywords → CallForm → Step Value
  eval_call parts p callee arguments by_name (instance_test n e t) = do
    charge
    emit n.place
    v ← parts.eval e
    emit p
    test ← look (instance_test_of t)
    look (λ s. Gives (boolean (passes s v test)))
  eval_call parts p callee arguments by_name ordinary = do
    called ← eval_callee parts callee
    values ← eval_all parts.eval arguments
    named ← eval_keywords parts.eval by_name
    emit p
    call_callee parts called values named

  -- the evaluation of an expression: its parts, its event, its action
  abbrev pub eval_node : Parts Step → Expr → Step Value
  eval_node parts (name n) = do
    emit n.place
    look (λ s. value_of_meaning (meaning_in_run n.text s))
  eval_node parts (number p digits) = do
    emit p
    act value_out (action.number (number_of_digits digits))
  eval_node parts (text p bytes) = do
    emit p
    pure (string (chars bytes))
  eval_node parts (truth p b) = do
    emit p
    pure (boolean b)
  eval_node parts (nothing p) = do
    emit p
    pure value.none
  eval_node parts (tuple p items) = do
    values ← eval_all parts.eval items
    emit p
    pure (tuple_of (values_of values))
  eval_node parts (list p items) = do
    values ← eval_all parts.eval items
    emit p
    act value_out (action.new_list values)
  eval_node parts (dict p items) = do
    entries ← eval_entries parts.eval items
    emit p
    act value_out (action.new_dict entries)
  eval_node parts (negative p e) = do
    v ← parts.eval e
    emit p
    act value_out (action.negative v)
  eval_node parts (negation p e) = do
    v ← parts.eval e
    emit p
    act value_out (action.negation v)
  eval_node parts (binary p operator l r) = do
    v ← parts.eval l
    w ← parts.eval r
    emit p
    act value_out (action.binary operator v w)
  eval_node parts (compare p operator l r) = do
    v ← parts.eval l
    w ← parts.eval r
    emit p
    act value_out (action.compare operator v w)
  eval_node parts (is_none p e) = do
    v ← parts.eval e
    emit p
    pure (boolean (is_none_value v))
  eval_node parts (is_not_none p e) = do
    v ← parts.eval e
    emit p
    pure (boolean (not (is_none_value v)))
  -- the right operand is evaluated only if needed; the value is that of the deciding operand
  eval_node parts (conjunction p l r) = do
    v ← parts.eval l
    b ← condition v
    w ← choose b (parts.eval r) (pure v)
    emit p
    pure w
  eval_node parts (disjunction p l r) = do
    v ← parts.eval l
    b ← condition v
    w ← choose b (pure v) (parts.eval r)
    emit p
    pure w
  eval_node parts (attribute p e f) = do
    v ← parts.eval e
    emit p
    is_method ← look (λ s. Gives (is_some (method_of s v f.text)))
    act value_out (action.read_attribute v f.text is_method)
  eval_node parts (index p e i) = do
    v ← parts.eval e
    k ← parts.eval i
    emit p
    act value_out (action.read_item v k)
  eval_node parts (call p callee arguments keywords) =
      eval_call parts p callee arguments keywords (call_form callee arguments keywords)

  -- ---- statements

  -- an assignment of a value to a target: the target's parts, its event, the store
  abbrev pub assign : Parts Step → Target → Value → Step StatementEnd
  assign parts (to_name n) v = do
    change (binds_local n.text v)
    pure next
  assign parts (to_attribute p e f) v = do
    object ← parts.eval e
    emit p
    stored ← act value_out (action.store_attribute object f.text v)
    pure next
  assign parts (to_index p e i) v = do
    object ← parts.eval e
    k ← parts.eval i
    emit p
    stored ← act value_out (action.store_item object k v)
    pure next

  -- an `assert` with a false condition: its message, then another exception
  abbrev pub fail : Parts Step → Option Expr → Step StatementEnd
  fail parts None = stop Other
  fail parts (Some e) = do
    v ← parts.eval e
    stop Other

  -- the first branch whose condition is true, else the suite of `else`
  abbrev pub exec_branches : Parts Step → Branches → Stmts → Step StatementEnd
  exec_branches parts no_branches otherwise = parts.exec otherwise
  exec_branches parts (more_branches e body rest) otherwise = do
    v ← parts.eval e
    b ← condition v
    choose b (parts.exec body) (exec_branches parts rest otherwise)

  -- the source of a `for`'s items; `range(e)` evaluates its name, its argument and its call like any other call
  abbrev pub eval_iterable : Parts Step → Expr → IterableForm → Step Iteration
  eval_iterable parts e (range_call p n arguments keywords) = do
    charge
    charge
    emit n.place
    values ← eval_all parts.eval arguments
    named ← eval_keywords parts.eval keywords
    emit p
    limit ← result_step (range_argument values named)
    act iteration_out (action.iterate_range limit)
  eval_iterable parts e any_iterable = do
    v ← parts.eval e
    act iteration_out (action.iterate v)

  -- the execution of a statement: its expressions, its binding or store, its suites, and the way it ends
  abbrev pub exec_node : Parts Step → Stmt → Step StatementEnd
  exec_node parts (pass p) = pure next
  exec_node parts (breaks p) = pure breaking
  exec_node parts (continues p) = pure continuing
  exec_node parts (returns p None) = pure (leaves value.none)
  exec_node parts (returns p (Some e)) = do
    v ← parts.eval e
    pure (leaves v)
  exec_node parts (asserts p e message) = do
    v ← parts.eval e
    b ← condition v
    choose b (pure next) (fail parts message)
  exec_node parts (annotated p n a None) = pure next
  exec_node parts (annotated p n a (Some e)) = do
    v ← parts.eval e
    change (binds_local n.text v)
    pure next
  exec_node parts (assigns p target e) = do
    v ← parts.eval e
    assign parts target v
  exec_node parts (evaluates p e) = do
    v ← parts.eval e
    pure next
  exec_node parts (while_loop p e body) = parts.again e body
  exec_node parts (for_loop p n e body) = do
    over ← eval_iterable parts e (iterable_form e)
    parts.turns over 0 n.text body
  exec_node parts (conditional p branches otherwise) = exec_branches parts branches otherwise

  -- the rest after a statement, if the statement ended with `next`
  abbrev pub then_follows : StatementEnd → Step StatementEnd → Step StatementEnd
  then_follows next rest = rest
  then_follows breaking rest = pure breaking
  then_follows continuing rest = pure continuing
  then_follows (leaves v) rest = pure (leaves v)

  -- statements, one after another
  abbrev pub exec_all : Parts Step → Stmts → Step StatementEnd
  exec_all parts no_stmts = pure next
  exec_all parts (more_stmts s rest) = do
    charge
    flow ← exec_node parts s
    then_follows flow (exec_all parts rest)

  -- ---- loops

  -- the suite of a loop; an empty one, which no text can contain, runs like `pass`
  abbrev pub exec_body : (Stmts → Step StatementEnd) → Stmts → Step StatementEnd
  exec_body exec no_stmts = do
    charge
    pure next
  exec_body exec (more_stmts s rest) = exec (more_stmts s rest)

  -- the rest of a loop after its suite; `break` leaves the loop
  abbrev pub after_turn : StatementEnd → Step StatementEnd → Step StatementEnd
  after_turn next more = more
  after_turn continuing more = more
  after_turn breaking more = pure next
  after_turn (leaves v) more = pure (leaves v)

  -- a turn of a `while`: the condition, the suite, the further turns
  abbrev pub while_turn : (Expr → Step Value) → (Stmts → Step StatementEnd) → Step StatementEnd → Expr → Stmts
      → Step StatementEnd
  while_turn eval exec more e body = do
    v ← eval e
    b ← condition v
    choose b (exec_body exec body >>= λ flow. after_turn flow more) (pure next)

  -- a turn of a `for` with its item, if there is one: the target, the suite, the further turns
  abbrev pub with_item : (Stmts → Step StatementEnd) → Step StatementEnd → List ℕ → Stmts → Option Value
      → Step StatementEnd
  with_item exec more n body None = pure next
  with_item exec more n body (Some v) = do
    change (binds_local n v)
    flow ← exec_body exec body
    after_turn flow more

  -- a turn of a `for`, counted from 0: the action that gives its item, then the turn with it
  abbrev pub for_turn : (Stmts → Step StatementEnd) → Step StatementEnd → Iteration → ℕ → List ℕ → Stmts
      → Step StatementEnd
  for_turn exec more over i n body = do
    item ← act item_out (action.turn over i)
    with_item exec more n body item

  -- ---- nested steps

  -- an expression whose parts have one nested step less: its charge, and then the node
  abbrev pub eval_over : Parts Step → Expr → Step Value
  eval_over parts e = do
    charge
    eval_node parts e

  -- the parts with one nested step more than these
  abbrev pub over_parts : Parts Step → Parts Step
  over_parts parts = record {
    eval = eval_over parts;
    exec = exec_all parts;
    again = λ e body. while_turn (eval_over parts) (exec_all parts) (parts.again e body) e body;
    turns = λ over i n body. for_turn (exec_all parts) (parts.turns over (suc i) n body) over i n body;
  }

  -- the parts with at most n nested steps
  abbrev pub steps : ℕ → Parts Step
  steps zero = record {
    eval = λ e. stop Cut;
    exec = λ body. stop Cut;
    again = λ e body. stop Cut;
    turns = λ over i n body. stop Cut;
  }
  steps (suc n) = over_parts (steps n)

  -- ---- the module

  -- the value of a literal as a default, which has no event; a `-` and its number are one number
  abbrev pub make_literal : Literal → Step Value
  make_literal (number_literal p digits) = act value_out (action.number (number_of_digits digits))
  make_literal (negative_literal p digits) = act value_out (action.number (negative_of_digits digits))
  make_literal (text_literal p bytes) = pure (string (chars bytes))
  make_literal (truth_literal p b) = pure (boolean b)
  make_literal (none_literal p) = pure value.none

  -- the default of a parameter or a field, if it has one
  abbrev pub make_default : Option Literal → Step (Option Value)
  make_default None = pure None
  make_default (Some l) = do
    v ← make_literal l
    pure (Some v)

  -- the parameters of a def, with the values of their defaults
  abbrev pub make_parameters : List Param → Step (List FormalParameter)
  make_parameters [] = pure []
  make_parameters (p ∷ rest) = do
    default ← make_default p.default
    others ← make_parameters rest
    pure (record { name = p.name.text; default = default } ∷ others)

  -- the function that a def makes: its parameters with their defaults
  abbrev pub make_function : FuncDef → Step Function
  make_function f = do
    parameters ← make_parameters f.params
    pure (record { name = f.name; parameters = parameters; body = f.body })

  -- the members of a class: fields and methods with their defaults
  abbrev pub make_members : List Member → Step Members
  make_members [] = pure (record { fields = []; methods = [] })
  make_members (field_member f ∷ rest) = do
    default ← make_default f.default
    others ← make_members rest
    pure (record {
      fields = record { name = f.name.text; default = default } ∷ others.fields;
      methods = others.methods;
    })
  make_members (method_member f ∷ rest) = do
    method ← make_function f
    others ← make_members rest
    pure (record { fields = others.fields; methods = method ∷ others.methods })

  -- the making of a class: `@dataclass`, the base, the members with their defaults, the order of its fields
  abbrev pub make_class : Bool → ClassDef → Step (Unit {0})
  make_class imports_dataclass c = do
    result_step (dataclass_found imports_dataclass)
    base ← look (base_number c.base)
    own ← make_members c.members
    class ← look (λ s. Gives (class_behind (class_at s.classes base) own (length s.classes)))
    result_step (defaults_in_order class.fields)
    change (binds_class c.name.text class)

  -- the execution of a constant, a class or a def
  abbrev pub exec_item : Parts Step → Bool → Item → Step (Unit {0})
  exec_item parts imports_dataclass (constant_item p c) = do
    charge
    v ← parts.eval c.value
    change (binds_global c.name.text (a_value v))
  exec_item parts imports_dataclass (class_item p c) = make_class imports_dataclass c
  exec_item parts imports_dataclass (def_item p f) = do
    function ← make_function f
    change (binds_global f.name.text (a_function function))

  -- items, in the order of the text
  abbrev pub exec_items : Parts Step → Bool → List Item → Step (Unit {0})
  exec_items parts imports_dataclass [] = pure tt
  exec_items parts imports_dataclass (i ∷ rest) = do
    exec_item parts imports_dataclass i
    exec_items parts imports_dataclass rest

  -- the call of `main` on the last line, without an event
  abbrev pub enter_main : Parts Step → Step Value
  enter_main parts = do
    called ← look (λ s. callee_of_meaning (codes "main") (meaning_in_run (codes "main") s))
    call_callee parts called [] []

  -- the run of a module: its items, then `main`
  abbrev pub exec_module : Parts Step → Module → Step Value
  exec_module parts m = do
    exec_items parts m.imports_dataclass m.items
    enter_main parts
