-- Two plain runs, one with more fuel: the items of a module and `main`.
use Rattle.std.proofs.Common.{ℕ, ◌+◌, ◌≤◌, Bool, List, [], ◌∷◌}
use Rattle.std.specs.Prelude.{Option, Some, None, codes, length}
use Rattle.pc_tree.specs.Tree.{Literal, number_literal, negative_literal, text_literal, truth_literal, none_literal}
use Rattle.pc_tree.specs.Tree.{Param, FuncDef, Member, field_member, method_member, ClassDef, Item, constant_item}
use Rattle.pc_tree.specs.Tree.{class_item, def_item, Module}
use Rattle.pc_value.specs.Value.{Gives}
use Rattle.pc_value.specs.Actions as action
use Rattle.pc_value.specs.Numbers.{number_of_digits, negative_of_digits}
use Rattle.pc_machine.specs.State.{a_value, a_function}
use Rattle.pc_machine.specs.Names.{meaning_in_run}
use Rattle.pc_machine.specs.Calls.{class_at, callee_of_meaning}
use Rattle.pc_machine.specs.Steps.{Parts}
use Rattle.pc_machine.specs.Evaluation as T
use Rattle.pc_machine.specs.Plain as P
use Rattle.pc_machine.specs.Runs.{plain_module}
use Rattle.pc_plain_runs.proofs.Fuel.{Keeps, bind_same, pure_same, charged_same, look_same, change_same}
use Rattle.pc_plain_runs.proofs.FuelExpressions.{PartsSame, value_same, call_callee_same}
use Rattle.pc_plain_runs.proofs.FuelStatements.{steps_same}

literal_same : {extra room : ℕ} (l : Literal) → Keeps extra room (T.make_literal P.Step P.plain l)
    (T.make_literal P.Step P.plain l)
literal_same (number_literal p digits) = value_same (action.number (number_of_digits digits))
literal_same (negative_literal p digits) = value_same (action.number (negative_of_digits digits))
literal_same (text_literal p bytes) = pure_same _
literal_same (truth_literal p b) = pure_same _
literal_same (none_literal p) = pure_same _

default_same : {extra room : ℕ} (l : Option Literal) → Keeps extra room (T.make_default P.Step P.plain l)
    (T.make_default P.Step P.plain l)
default_same None = pure_same None
default_same (Some l) = bind_same _ _ _ _ (literal_same l) λ v. pure_same (Some v)

parameters_same : {extra room : ℕ} (ps : List Param) → Keeps extra room (T.make_parameters P.Step P.plain ps)
    (T.make_parameters P.Step P.plain ps)
parameters_same [] = pure_same []
parameters_same (p ∷ rest) = bind_same _ _ _ _ (default_same p.default) λ d. bind_same _ _ _ _
    (parameters_same rest) λ others. pure_same _

function_made_same : {extra room : ℕ} (f : FuncDef) → Keeps extra room (T.make_function P.Step P.plain f)
    (T.make_function P.Step P.plain f)
function_made_same f = bind_same _ _ _ _ (parameters_same f.params) λ ps. pure_same _

members_same : {extra room : ℕ} (ms : List Member) → Keeps extra room (T.make_members P.Step P.plain ms)
    (T.make_members P.Step P.plain ms)
members_same [] = pure_same _
members_same (field_member f ∷ rest) = bind_same _ _ _ _ (default_same f.default) λ d. bind_same _ _ _ _
    (members_same rest) λ others. pure_same _
members_same (method_member f ∷ rest) = bind_same _ _ _ _ (function_made_same f) λ m. bind_same _ _ _ _
    (members_same rest) λ others. pure_same _

class_made_same : {extra room : ℕ} (b : Bool) (c : ClassDef) → Keeps extra room (T.make_class P.Step P.plain b c)
    (T.make_class P.Step P.plain b c)
class_made_same b c = bind_same _ _ _ _ (look_same (λ s. T.dataclass_found b)) λ u. bind_same _ _ _ _ (look_same
    (T.base_number c.base)) λ base. bind_same _ _ _ _ (members_same c.members) λ own. bind_same _ _ _ _ (look_same (λ s.
    Gives (T.class_behind (class_at s.classes base) own (length s.classes)))) λ made. bind_same _ _ _ _ (look_same (λ s.
    T.defaults_in_order made.fields)) λ u. change_same (T.binds_class c.name.text made)

module _ (extra room : ℕ) (f r : Parts P.Step) (h : PartsSame extra room f r) where
  item_same : (b : Bool) (i : Item) → Keeps extra room (T.exec_item P.Step P.plain f b i)
      (T.exec_item P.Step P.plain r b i)
  item_same b (constant_item p c) = bind_same _ _ _ _ charged_same λ u. bind_same _ _ _ _ (h.eval c.value) λ v.
      change_same (T.binds_global c.name.text (a_value v))
  item_same b (class_item p c) = class_made_same b c
  item_same b (def_item p d) = bind_same _ _ _ _ (function_made_same d) λ g. change_same (T.binds_global d.name.text
      (a_function g))

  items_same : (b : Bool) (is : List Item) → Keeps extra room (T.exec_items P.Step P.plain f b is)
      (T.exec_items P.Step P.plain r b is)
  items_same b [] = pure_same tt
  items_same b (i ∷ rest) = bind_same _ _ _ _ (item_same b i) λ u. items_same b rest

  main_same : Keeps extra room (T.enter_main P.Step P.plain f) (T.enter_main P.Step P.plain r)
  main_same = bind_same _ _ _ _ (look_same (λ s. callee_of_meaning (codes "main") (meaning_in_run
      (codes "main") s))) λ called. call_callee_same extra room f r h called [] []

  whole_same : (m : Module) → Keeps extra room (T.exec_module P.Step P.plain f m) (T.exec_module P.Step P.plain r m)
  whole_same m = bind_same _ _ _ _ (items_same m.imports_dataclass m.items) λ u. main_same

pub module_same : (extra n k : ℕ) → n + extra ≤ k → (m : Module) → Keeps extra n (plain_module n m) (plain_module k m)
module_same extra n k le m =
    whole_same extra n (T.steps P.Step P.plain n) (T.steps P.Step P.plain k) (steps_same extra n k le) m
