-- Two plain runs, one with more fuel: expressions, by cases on the node.
use Rattle.std.proofs.Common.{ℕ, Bool, true, false, List, [], ◌∷◌}
use Rattle.std.specs.Prelude.{Option, Some, None, is_some, not, chars}
use Rattle.pc_source.specs.declared.place.Place.{Place}
use Rattle.pc_tree.specs.Tree.{Expr, name, number, text, truth, nothing, tuple, list, dict, negative, negation, binary}
use Rattle.pc_tree.specs.Tree.{compare, is_none, is_not_none, conjunction, disjunction, attribute, index, call, Exprs}
use Rattle.pc_tree.specs.Tree.{no_exprs, more_exprs, Entries, no_entries, more_entries, Keywords, no_keywords}
use Rattle.pc_tree.specs.Tree.{more_keywords, Stmts}
use Rattle.pc_value.specs.Value as value
use Rattle.pc_value.specs.Value.{Value, Gives, boolean, string, tuple_of, values_of, is_true}
use Rattle.pc_value.specs.Numbers.{number_of_digits}
use Rattle.pc_value.specs.Actions as action
use Rattle.pc_value.specs.Actions.{Action, Iteration}
use Rattle.pc_machine.specs.State.{Function}
use Rattle.pc_machine.specs.Calls.{Callee, calls_value, calls_function, calls_class, calls_reserved, calls_method}
use Rattle.pc_machine.specs.Calls.{calls_builtin_method, NamedValue, ReservedCall, prints, performs, class_at, slots_of}
use Rattle.pc_machine.specs.Calls.{callee_of_meaning, value_of_meaning, method_of, named_method, bound_arguments}
use Rattle.pc_machine.specs.Calls.{or_type_error, reserved_call, builtin_method_action, instance_test_of, passes}
use Rattle.pc_machine.specs.Names.{meaning_in_run}
use Rattle.pc_machine.specs.Steps.{Parts, value_out}
use Rattle.pc_machine.specs.Evaluation as T
use Rattle.pc_machine.specs.Evaluation.{CallForm, instance_test, ordinary, call_form}
use Rattle.pc_machine.specs.Plain as P
use Rattle.pc_machine.specs.Plain.{plain}
use Rattle.pc_plain_runs.proofs.Fuel.{Same, Keeps, bind_same, pure_same, stop_same, charged_same, emit_same, look_same}
use Rattle.pc_plain_runs.proofs.Fuel.{act_same, enter_same}

-- each part comes to the same, below a bound on the fuel
pub record PartsSame (extra room : ℕ) (f r : Parts P.Step) : Type 0 where
  pub eval : (e : Expr) → Keeps extra room (f.eval e) (r.eval e)
  pub exec : (body : Stmts) → Keeps extra room (f.exec body) (r.exec body)
  pub again : (e : Expr) (body : Stmts) → Keeps extra room (f.again e body) (r.again e body)
  pub turns : (over : Iteration) (i : ℕ) (n : List ℕ) (body : Stmts)
      → Keeps extra room (f.turns over i n body) (r.turns over i n body)

pub value_same : {extra room : ℕ} (a : Action) → Keeps extra room (plain.act value_out a) (plain.act value_out a)
value_same a = act_same value_out a

pub choose_same : {extra room left : ℕ} {A : Type 0} (b : Bool) (f g : P.Step A) (r q : P.Step A)
    → Same extra room left f r → Same extra room left g q
    → Same extra room left (T.choose P.Step P.plain b f g) (T.choose P.Step P.plain b r q)
choose_same true f g r q x y = x
choose_same false f g r q x y = y

pub all_same : {extra room : ℕ} (f : Expr → P.Step Value) (r : Expr → P.Step Value) → ((e : Expr)
    → Keeps extra room (f e) (r e)) → (es : Exprs)
    → Keeps extra room (T.eval_all P.Step P.plain f es) (T.eval_all P.Step P.plain r es)
all_same f r h no_exprs = pure_same []
all_same f r h (more_exprs e rest) = bind_same _ _ _ _ (h e) λ v. bind_same _ _ _ _ (all_same f r h rest) λ vs.
    pure_same (v ∷ vs)

entries_same : {extra room : ℕ} (f : Expr → P.Step Value) (r : Expr → P.Step Value) → ((e : Expr)
    → Keeps extra room (f e) (r e)) → (es : Entries)
    → Keeps extra room (T.eval_entries P.Step P.plain f es) (T.eval_entries P.Step P.plain r es)
entries_same f r h no_entries = pure_same []
entries_same f r h (more_entries key e rest) = bind_same _ _ _ _ (h key) λ k. bind_same _ _ _ _ (h e) λ v.
    bind_same _ _ _ _ (entries_same f r h rest) λ es. pure_same _

pub keywords_same : {extra room : ℕ} (f : Expr → P.Step Value) (r : Expr → P.Step Value) → ((e : Expr)
    → Keeps extra room (f e) (r e))
    → (ks : Keywords) → Keeps extra room (T.eval_keywords P.Step P.plain f ks) (T.eval_keywords P.Step P.plain r ks)
keywords_same f r h no_keywords = pure_same []
keywords_same f r h (more_keywords n e rest) = bind_same _ _ _ _ (h e) λ v. bind_same _ _ _ _
    (keywords_same f r h rest) λ vs. pure_same _

module _ (extra room : ℕ) (f r : Parts P.Step) (h : PartsSame extra room f r) where
  of_attribute_same : (v : Value) (m : List ℕ) (c : Option Callee) → Keeps extra room
      (T.callee_of_attribute P.Step P.plain v m c)
      (T.callee_of_attribute P.Step P.plain v m c)
  of_attribute_same v m (Some c) = pure_same c
  of_attribute_same v m None = bind_same _ _ _ _ (value_same (action.read_attribute v m false)) λ field. pure_same
      (calls_value field)

  value_callee_same : (e : Expr) → Keeps extra room (plain.◌>>=◌ (f.eval e) (λ v. plain.pure (calls_value v)))
      (plain.◌>>=◌ (r.eval e) (λ v. plain.pure (calls_value v)))
  value_callee_same e = bind_same _ _ _ _ (h.eval e) λ v. pure_same (calls_value v)

  callee_same : (e : Expr) → Keeps extra room (T.eval_callee P.Step P.plain f e) (T.eval_callee P.Step P.plain r e)
  callee_same (name n) = bind_same _ _ _ _ charged_same λ u. bind_same _ _ _ _ (emit_same n.place) λ u. look_same (λ s.
      callee_of_meaning n.text (meaning_in_run n.text s))
  callee_same (attribute p e m) = bind_same _ _ _ _ charged_same λ u. bind_same _ _ _ _ (h.eval e) λ v.
      bind_same _ _ _ _ (emit_same p) λ u. bind_same _ _ _ _ (look_same (λ s. Gives (named_method s v m.text))) λ c.
      of_attribute_same v m.text c
  callee_same e = value_callee_same e

  function_same : (g : Function) (values : List Value) (named : List NamedValue)
      → Keeps extra room (T.call_function P.Step P.plain f g values named)
      (T.call_function P.Step P.plain r g values named)
  function_same g values named = bind_same _ _ _ _ (look_same (λ s. or_type_error
      (bound_arguments g.parameters values named))) λ arguments. bind_same _ _ _ _ (enter_same _ _ _
      (h.exec g.body)) λ flow. pure_same _

  method_same : (o : Value) (g : Function) (values : List Value) (named : List NamedValue)
      → Keeps extra room (T.call_method P.Step P.plain f o g values named)
      (T.call_method P.Step P.plain r o g values named)
  method_same o g values named = bind_same _ _ _ _ (look_same (λ s. or_type_error
      (bound_arguments g.parameters values named))) λ arguments. bind_same _ _ _ _ (enter_same _ _ _ (bind_same _ _ _ _
      (emit_same g.name.place) λ u. h.exec g.body)) λ flow. pure_same _

  class_same : (c : ℕ) (values : List Value) (named : List NamedValue)
      → Keeps extra room (T.call_class P.Step P.plain c values named) (T.call_class P.Step P.plain c values named)
  class_same c values named = bind_same _ _ _ _ (look_same (λ s. Gives (T.fields_of (class_at s.classes
      (Some c))))) λ fields. bind_same _ _ _ _ (look_same (λ s. or_type_error
      (bound_arguments fields values named))) λ arguments. value_same (action.new_instance c (slots_of arguments))

  reserved_same : (c : ReservedCall) → Keeps extra room (T.do_reserved P.Step P.plain c)
      (T.do_reserved P.Step P.plain c)
  reserved_same prints = pure_same _
  reserved_same (performs a) = value_same a

  pub call_callee_same : (c : Callee) (values : List Value) (named : List NamedValue)
      → Keeps extra room (T.call_callee P.Step P.plain f c values named) (T.call_callee P.Step P.plain r c values named)
  call_callee_same (calls_value v) values named = stop_same _
  call_callee_same (calls_function g) values named = function_same g values named
  call_callee_same (calls_class c) values named = class_same c values named
  call_callee_same (calls_reserved n) values named = bind_same _ _ _ _ (look_same (λ s.
      reserved_call n values named)) λ c. reserved_same c
  call_callee_same (calls_method o g) values named = method_same o g values named
  call_callee_same (calls_builtin_method o m) values named = bind_same _ _ _ _ (look_same (λ s.
      builtin_method_action o m values named)) λ a. value_same a

  call_same : (p : Place) (c : Expr) (arguments : Exprs) (by_name : Keywords) (form : CallForm)
      → Keeps extra room (T.eval_call P.Step P.plain f p c arguments by_name form)
      (T.eval_call P.Step P.plain r p c arguments by_name form)
  call_same p c arguments by_name (instance_test n e t) = bind_same _ _ _ _ charged_same λ u. bind_same _ _ _ _
      (emit_same n.place) λ u. bind_same _ _ _ _ (h.eval e) λ v. bind_same _ _ _ _ (emit_same p) λ u. bind_same _ _ _ _
      (look_same (instance_test_of t)) λ test. look_same (λ s. Gives (boolean (passes s v test)))
  call_same p c arguments by_name ordinary = bind_same _ _ _ _ (callee_same c) λ called. bind_same _ _ _ _
      (all_same f.eval r.eval h.eval arguments) λ values. bind_same _ _ _ _
      (keywords_same f.eval r.eval h.eval by_name) λ named. bind_same _ _ _ _ (emit_same p) λ u.
      call_callee_same called values named

  pub node_same : (e : Expr) → Keeps extra room (T.eval_node P.Step P.plain f e) (T.eval_node P.Step P.plain r e)
  node_same (name n) = bind_same _ _ _ _ (emit_same n.place) λ u. look_same (λ s. value_of_meaning
      (meaning_in_run n.text s))
  node_same (number p digits) = bind_same _ _ _ _ (emit_same p) λ u. value_same (action.number
      (number_of_digits digits))
  node_same (text p bytes) = bind_same _ _ _ _ (emit_same p) λ u. pure_same (string (chars bytes))
  node_same (truth p b) = bind_same _ _ _ _ (emit_same p) λ u. pure_same (boolean b)
  node_same (nothing p) = bind_same _ _ _ _ (emit_same p) λ u. pure_same value.none
  node_same (tuple p items) = bind_same _ _ _ _ (all_same f.eval r.eval h.eval items) λ vs. bind_same _ _ _ _
      (emit_same p) λ u. pure_same (tuple_of (values_of vs))
  node_same (list p items) = bind_same _ _ _ _ (all_same f.eval r.eval h.eval items) λ vs. bind_same _ _ _ _
      (emit_same p) λ u. value_same (action.new_list vs)
  node_same (dict p items) = bind_same _ _ _ _ (entries_same f.eval r.eval h.eval items) λ es. bind_same _ _ _ _
      (emit_same p) λ u. value_same (action.new_dict es)
  node_same (negative p e) = bind_same _ _ _ _ (h.eval e) λ v. bind_same _ _ _ _ (emit_same p) λ u. value_same
      (action.negative v)
  node_same (negation p e) = bind_same _ _ _ _ (h.eval e) λ v. bind_same _ _ _ _ (emit_same p) λ u. value_same
      (action.negation v)
  node_same (binary p operator a b) = bind_same _ _ _ _ (h.eval a) λ v. bind_same _ _ _ _ (h.eval b) λ w.
      bind_same _ _ _ _ (emit_same p) λ u. value_same (action.binary operator v w)
  node_same (compare p operator a b) = bind_same _ _ _ _ (h.eval a) λ v. bind_same _ _ _ _ (h.eval b) λ w.
      bind_same _ _ _ _ (emit_same p) λ u. value_same (action.compare operator v w)
  node_same (is_none p e) = bind_same _ _ _ _ (h.eval e) λ v. bind_same _ _ _ _ (emit_same p) λ u. pure_same (boolean
      (T.is_none_value v))
  node_same (is_not_none p e) = bind_same _ _ _ _ (h.eval e) λ v. bind_same _ _ _ _ (emit_same p) λ u. pure_same
      (boolean (not (T.is_none_value v)))
  node_same (conjunction p a b) = bind_same _ _ _ _ (h.eval a) λ v. bind_same _ _ _ _ (look_same (λ s. Gives
      (is_true s.heap v))) λ t. bind_same _ _ _ _ (choose_same t _ _ _ _ (h.eval b) (pure_same v)) λ w.
      bind_same _ _ _ _ (emit_same p) λ u. pure_same w
  node_same (disjunction p a b) = bind_same _ _ _ _ (h.eval a) λ v. bind_same _ _ _ _ (look_same (λ s. Gives
      (is_true s.heap v))) λ t. bind_same _ _ _ _ (choose_same t _ _ _ _ (pure_same v) (h.eval b)) λ w.
      bind_same _ _ _ _ (emit_same p) λ u. pure_same w
  node_same (attribute p e m) = bind_same _ _ _ _ (h.eval e) λ v. bind_same _ _ _ _ (emit_same p) λ u. bind_same _ _ _ _
      (look_same (λ s. Gives (is_some (method_of s v m.text)))) λ b. value_same (action.read_attribute v m.text b)
  node_same (index p e i) = bind_same _ _ _ _ (h.eval e) λ v. bind_same _ _ _ _ (h.eval i) λ k. bind_same _ _ _ _
      (emit_same p) λ u. value_same (action.read_item v k)
  node_same (call p c arguments by_name) = call_same p c arguments by_name (call_form c arguments by_name)
