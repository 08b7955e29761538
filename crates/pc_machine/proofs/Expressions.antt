-- A plain run is a possible run: expressions, by cases on the node.
use Rattle.std.proofs.Common.{ℕ, Bool, true, false, List, [], ◌∷◌, refl}
use Rattle.std.specs.Prelude.{Option, Some, None}
use Rattle.pc_source.specs.declared.place.Place.{Place}
use Rattle.pc_tree.specs.Tree.{Expr, name, number, text, truth, nothing, tuple, list, dict, negative, negation, binary}
use Rattle.pc_tree.specs.Tree.{compare, is_none, is_not_none, conjunction, disjunction, attribute, index, call, Exprs}
use Rattle.pc_tree.specs.Tree.{no_exprs, more_exprs, Entries, no_entries, more_entries, Keywords, no_keywords}
use Rattle.pc_tree.specs.Tree.{more_keywords, Stmts}
use Rattle.pc_value.specs.Value.{Value, Gives}
use Rattle.pc_value.specs.Actions.{Action, Iteration}
use Rattle.pc_machine.specs.State.{Function}
use Rattle.pc_machine.specs.Calls.{Callee, calls_value, calls_function, calls_class, calls_reserved, calls_method}
use Rattle.pc_machine.specs.Calls.{calls_builtin_method, NamedValue, ReservedCall, prints, performs}
use Rattle.pc_machine.specs.Steps.{Parts, value_out}
use Rattle.pc_machine.specs.Evaluation as T
use Rattle.pc_machine.specs.Evaluation.{CallForm, instance_test, ordinary, call_form}
use Rattle.pc_machine.specs.Plain as P
use Rattle.pc_machine.specs.Free as F
use Rattle.pc_machine.proofs.Fits.{Fits, bind_fits, pure_fits, stop_fits, charge_fits, emit_fits, look_fits, act_fits}
use Rattle.pc_machine.proofs.Fits.{enter_fits}

-- each part fits
pub record PartsFit (f : Parts P.Step) (r : Parts F.Step) : Type 0 where
  pub eval : (e : Expr) → Fits (f.eval e) (r.eval e)
  pub exec : (body : Stmts) → Fits (f.exec body) (r.exec body)
  pub again : (e : Expr) (body : Stmts) → Fits (f.again e body) (r.again e body)
  pub turns : (over : Iteration) (i : ℕ) (n : List ℕ) (body : Stmts)
      → Fits (f.turns over i n body) (r.turns over i n body)

pub value_fits : (a : Action) → Fits (P.act value_out a) (F.act value_out a)
value_fits a = act_fits value_out a refl

pub choose_fits : {A : Type 0} (b : Bool) (f g : P.Step A) (r q : F.Step A) → Fits f r → Fits g q
    → Fits (T.choose P.Step P.plain b f g) (T.choose F.Step F.free b r q)
choose_fits true f g r q x y = x
choose_fits false f g r q x y = y

pub all_fits : (f : Expr → P.Step Value) (r : Expr → F.Step Value) → ((e : Expr) → Fits (f e) (r e)) → (es : Exprs)
    → Fits (T.eval_all P.Step P.plain f es) (T.eval_all F.Step F.free r es)
all_fits f r h no_exprs = pure_fits []
all_fits f r h (more_exprs e rest) = bind_fits _ _ _ _ (h e) λ v. bind_fits _ _ _ _ (all_fits f r h rest) λ vs.
    pure_fits (v ∷ vs)

entries_fit : (f : Expr → P.Step Value) (r : Expr → F.Step Value) → ((e : Expr) → Fits (f e) (r e)) → (es : Entries)
    → Fits (T.eval_entries P.Step P.plain f es) (T.eval_entries F.Step F.free r es)
entries_fit f r h no_entries = pure_fits []
entries_fit f r h (more_entries key e rest) = bind_fits _ _ _ _ (h key) λ k. bind_fits _ _ _ _ (h e) λ v.
    bind_fits _ _ _ _ (entries_fit f r h rest) λ es. pure_fits _

pub keywords_fit : (f : Expr → P.Step Value) (r : Expr → F.Step Value) → ((e : Expr) → Fits (f e) (r e))
    → (ks : Keywords) → Fits (T.eval_keywords P.Step P.plain f ks) (T.eval_keywords F.Step F.free r ks)
keywords_fit f r h no_keywords = pure_fits []
keywords_fit f r h (more_keywords n e rest) = bind_fits _ _ _ _ (h e) λ v. bind_fits _ _ _ _ (keywords_fit f r h rest)
    λ vs. pure_fits _

module _ (f : Parts P.Step) (r : Parts F.Step) (h : PartsFit f r) where
  of_attribute_fits : (v : Value) (m : List ℕ) (c : Option Callee) → Fits (T.callee_of_attribute P.Step P.plain v m c)
      (T.callee_of_attribute F.Step F.free v m c)
  of_attribute_fits v m (Some c) = pure_fits c
  of_attribute_fits v m None = bind_fits _ _ _ _ (value_fits _) λ field. pure_fits (calls_value field)

  value_callee_fits : (e : Expr) → Fits (P.◌>>=◌ (f.eval e) (λ v. λ w. P.Came (calls_value v) w))
      (F.◌>>=◌ (r.eval e) (λ v. F.comes (Gives (calls_value v))))
  value_callee_fits e = bind_fits _ _ _ _ (h.eval e) λ v. pure_fits (calls_value v)

  callee_fits : (e : Expr) → Fits (T.eval_callee P.Step P.plain f e) (T.eval_callee F.Step F.free r e)
  callee_fits (name n) = bind_fits _ _ _ _ charge_fits λ u. bind_fits _ _ _ _ (emit_fits n.place) λ u. look_fits _
  callee_fits (attribute p e m) = bind_fits _ _ _ _ charge_fits λ u. bind_fits _ _ _ _ (h.eval e) λ v. bind_fits _ _ _ _
      (emit_fits p) λ u. bind_fits _ _ _ _ (look_fits _) λ c. of_attribute_fits v m.text c
  callee_fits e = value_callee_fits e

  function_fits : (g : Function) (values : List Value) (named : List NamedValue)
      → Fits (T.call_function P.Step P.plain f g values named) (T.call_function F.Step F.free r g values named)
  function_fits g values named = bind_fits _ _ _ _ (look_fits _) λ arguments. bind_fits _ _ _ _
      (enter_fits _ _ _ (h.exec g.body)) λ flow. pure_fits _

  method_fits : (o : Value) (g : Function) (values : List Value) (named : List NamedValue)
      → Fits (T.call_method P.Step P.plain f o g values named) (T.call_method F.Step F.free r o g values named)
  method_fits o g values named = bind_fits _ _ _ _ (look_fits _) λ arguments. bind_fits _ _ _ _
      (enter_fits _ _ _ (bind_fits _ _ _ _ (emit_fits g.name.place) λ u. h.exec g.body)) λ flow. pure_fits _

  class_fits : (c : ℕ) (values : List Value) (named : List NamedValue)
      → Fits (T.call_class P.Step P.plain c values named) (T.call_class F.Step F.free c values named)
  class_fits c values named = bind_fits _ _ _ _ (look_fits _) λ fields. bind_fits _ _ _ _ (look_fits _) λ arguments.
      value_fits _

  reserved_fits : (c : ReservedCall) → Fits (T.do_reserved P.Step P.plain c) (T.do_reserved F.Step F.free c)
  reserved_fits prints = pure_fits _
  reserved_fits (performs a) = value_fits a

  pub call_callee_fits : (c : Callee) (values : List Value) (named : List NamedValue)
      → Fits (T.call_callee P.Step P.plain f c values named) (T.call_callee F.Step F.free r c values named)
  call_callee_fits (calls_value v) values named = stop_fits _
  call_callee_fits (calls_function g) values named = function_fits g values named
  call_callee_fits (calls_class c) values named = class_fits c values named
  call_callee_fits (calls_reserved n) values named = bind_fits _ _ _ _ (look_fits _) λ c. reserved_fits c
  call_callee_fits (calls_method o g) values named = method_fits o g values named
  call_callee_fits (calls_builtin_method o m) values named = bind_fits _ _ _ _ (look_fits _) λ a. value_fits a

  call_fits : (p : Place) (c : Expr) (arguments : Exprs) (by_name : Keywords) (form : CallForm)
      → Fits (T.eval_call P.Step P.plain f p c arguments by_name form)
      (T.eval_call F.Step F.free r p c arguments by_name form)
  call_fits p c arguments by_name (instance_test n e t) = bind_fits _ _ _ _ charge_fits λ u. bind_fits _ _ _ _
      (emit_fits n.place) λ u. bind_fits _ _ _ _ (h.eval e) λ v. bind_fits _ _ _ _ (emit_fits p) λ u. bind_fits _ _ _ _
      (look_fits _) λ test. look_fits _
  call_fits p c arguments by_name ordinary = bind_fits _ _ _ _ (callee_fits c) λ called. bind_fits _ _ _ _
      (all_fits f.eval r.eval h.eval arguments) λ values. bind_fits _ _ _ _ (keywords_fit f.eval r.eval h.eval by_name)
      λ named. bind_fits _ _ _ _ (emit_fits p) λ u. call_callee_fits called values named

  pub node_fits : (e : Expr) → Fits (T.eval_node P.Step P.plain f e) (T.eval_node F.Step F.free r e)
  node_fits (name n) = bind_fits _ _ _ _ (emit_fits n.place) λ u. look_fits _
  node_fits (number p digits) = bind_fits _ _ _ _ (emit_fits p) λ u. value_fits _
  node_fits (text p bytes) = bind_fits _ _ _ _ (emit_fits p) λ u. pure_fits _
  node_fits (truth p b) = bind_fits _ _ _ _ (emit_fits p) λ u. pure_fits _
  node_fits (nothing p) = bind_fits _ _ _ _ (emit_fits p) λ u. pure_fits _
  node_fits (tuple p items) = bind_fits _ _ _ _ (all_fits f.eval r.eval h.eval items) λ vs. bind_fits _ _ _ _
      (emit_fits p) λ u. pure_fits _
  node_fits (list p items) = bind_fits _ _ _ _ (all_fits f.eval r.eval h.eval items) λ vs. bind_fits _ _ _ _
      (emit_fits p) λ u. value_fits _
  node_fits (dict p items) = bind_fits _ _ _ _ (entries_fit f.eval r.eval h.eval items) λ es. bind_fits _ _ _ _
      (emit_fits p) λ u. value_fits _
  node_fits (negative p e) = bind_fits _ _ _ _ (h.eval e) λ v. bind_fits _ _ _ _ (emit_fits p) λ u. value_fits _
  node_fits (negation p e) = bind_fits _ _ _ _ (h.eval e) λ v. bind_fits _ _ _ _ (emit_fits p) λ u. value_fits _
  node_fits (binary p operator a b) = bind_fits _ _ _ _ (h.eval a) λ v. bind_fits _ _ _ _ (h.eval b) λ w.
      bind_fits _ _ _ _ (emit_fits p) λ u. value_fits _
  node_fits (compare p operator a b) = bind_fits _ _ _ _ (h.eval a) λ v. bind_fits _ _ _ _ (h.eval b) λ w.
      bind_fits _ _ _ _ (emit_fits p) λ u. value_fits _
  node_fits (is_none p e) = bind_fits _ _ _ _ (h.eval e) λ v. bind_fits _ _ _ _ (emit_fits p) λ u. pure_fits _
  node_fits (is_not_none p e) = bind_fits _ _ _ _ (h.eval e) λ v. bind_fits _ _ _ _ (emit_fits p) λ u. pure_fits _
  node_fits (conjunction p a b) = bind_fits _ _ _ _ (h.eval a) λ v. bind_fits _ _ _ _ (look_fits _) λ t. bind_fits _ _ _
      _ (choose_fits t _ _ _ _ (h.eval b) (pure_fits v)) λ w. bind_fits _ _ _ _ (emit_fits p) λ u. pure_fits w
  node_fits (disjunction p a b) = bind_fits _ _ _ _ (h.eval a) λ v. bind_fits _ _ _ _ (look_fits _) λ t. bind_fits _ _ _
      _ (choose_fits t _ _ _ _ (pure_fits v) (h.eval b)) λ w. bind_fits _ _ _ _ (emit_fits p) λ u. pure_fits w
  node_fits (attribute p e m) = bind_fits _ _ _ _ (h.eval e) λ v. bind_fits _ _ _ _ (emit_fits p) λ u. bind_fits _ _ _ _
      (look_fits _) λ b. value_fits _
  node_fits (index p e i) = bind_fits _ _ _ _ (h.eval e) λ v. bind_fits _ _ _ _ (h.eval i) λ k. bind_fits _ _ _ _
      (emit_fits p) λ u. value_fits _
  node_fits (call p c arguments by_name) = call_fits p c arguments by_name (call_form c arguments by_name)
