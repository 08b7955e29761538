-- A plain run is a possible run: the items of a module, `main`, and thus each plain run.
use Rattle.std.proofs.Common.{ℕ, suc, Bool, List, [], ◌∷◌, sym, ◌∙◌, subst, arith, inl, inr}
use Rattle.std.specs.Prelude.{Option, Some, None}
use Rattle.pc_source.specs.declared.place.Place.{Place}
use Rattle.pc_tree.specs.Tree.{Literal, number_literal, negative_literal, text_literal, truth_literal, none_literal}
use Rattle.pc_tree.specs.Tree.{Param, FuncDef, Member, field_member, method_member, ClassDef, Item, constant_item}
use Rattle.pc_tree.specs.Tree.{class_item, def_item, Module}
use Rattle.pc_value.specs.Value.{Value, Gives, Stops}
use Rattle.pc_machine.specs.State.{nothing_bound}
use Rattle.pc_machine.specs.Steps.{Parts}
use Rattle.pc_machine.specs.Evaluation as T
use Rattle.pc_machine.specs.Plain as P
use Rattle.pc_machine.specs.Plain.{Progress, After, Came, Ended, begin}
use Rattle.pc_machine.specs.Free as F
use Rattle.pc_machine.specs.Runs.{End, Ran, PlainlyRan, Leaves, plain_module, free_module, PlainRunsAreRuns}
use Rattle.pc_machine.proofs.Fits.{Fits, RanTo, bind_fits, pure_fits, charge_fits, look_fits, change_fits}
use Rattle.pc_machine.proofs.Expressions.{PartsFit, value_fits, call_callee_fits}
use Rattle.pc_machine.proofs.Statements.{steps_fit}

literal_fits : (l : Literal) → Fits (T.make_literal P.Step P.plain l) (T.make_literal F.Step F.free l)
literal_fits (number_literal p digits) = value_fits _
literal_fits (negative_literal p digits) = value_fits _
literal_fits (text_literal p bytes) = pure_fits _
literal_fits (truth_literal p b) = pure_fits _
literal_fits (none_literal p) = pure_fits _

default_fits : (l : Option Literal) → Fits (T.make_default P.Step P.plain l) (T.make_default F.Step F.free l)
default_fits None = pure_fits None
default_fits (Some l) = bind_fits _ _ _ _ (literal_fits l) λ v. pure_fits (Some v)

parameters_fit : (ps : List Param) → Fits (T.make_parameters P.Step P.plain ps) (T.make_parameters F.Step F.free ps)
parameters_fit [] = pure_fits []
parameters_fit (p ∷ rest) = bind_fits _ _ _ _ (default_fits p.default) λ d. bind_fits _ _ _ _ (parameters_fit rest)
    λ others. pure_fits _

function_made_fits : (f : FuncDef) → Fits (T.make_function P.Step P.plain f) (T.make_function F.Step F.free f)
function_made_fits f = bind_fits _ _ _ _ (parameters_fit f.params) λ ps. pure_fits _

members_fit : (ms : List Member) → Fits (T.make_members P.Step P.plain ms) (T.make_members F.Step F.free ms)
members_fit [] = pure_fits _
members_fit (field_member f ∷ rest) = bind_fits _ _ _ _ (default_fits f.default) λ d. bind_fits _ _ _ _
    (members_fit rest) λ others. pure_fits _
members_fit (method_member f ∷ rest) = bind_fits _ _ _ _ (function_made_fits f) λ m. bind_fits _ _ _ _
    (members_fit rest) λ others. pure_fits _

class_made_fits : (b : Bool) (c : ClassDef) → Fits (T.make_class P.Step P.plain b c) (T.make_class F.Step F.free b c)
class_made_fits b c = bind_fits _ _ _ _ (look_fits _) λ u. bind_fits _ _ _ _ (look_fits _) λ base. bind_fits _ _ _ _
    (members_fit c.members) λ own. bind_fits _ _ _ _ (look_fits _) λ made. bind_fits _ _ _ _ (look_fits _) λ u.
    change_fits _

module _ (f : Parts P.Step) (r : Parts F.Step) (h : PartsFit f r) where
  item_fits : (b : Bool) (i : Item) → Fits (T.exec_item P.Step P.plain f b i) (T.exec_item F.Step F.free r b i)
  item_fits b (constant_item p c) = bind_fits _ _ _ _ charge_fits λ u. bind_fits _ _ _ _ (h.eval c.value) λ v.
      change_fits _
  item_fits b (class_item p c) = class_made_fits b c
  item_fits b (def_item p d) = bind_fits _ _ _ _ (function_made_fits d) λ g. change_fits _

  items_fit : (b : Bool) (is : List Item) → Fits (T.exec_items P.Step P.plain f b is)
      (T.exec_items F.Step F.free r b is)
  items_fit b [] = pure_fits tt
  items_fit b (i ∷ rest) = bind_fits _ _ _ _ (item_fits b i) λ u. items_fit b rest

  main_fits : Fits (T.enter_main P.Step P.plain f) (T.enter_main F.Step F.free r)
  main_fits = bind_fits _ _ _ _ (look_fits _) λ called. call_callee_fits f r h called [] []

  whole_fits : (m : Module) → Fits (T.exec_module P.Step P.plain f m) (T.exec_module F.Step F.free r m)
  whole_fits m = bind_fits _ _ _ _ (items_fit m.imports_dataclass m.items) λ u. main_fits

module_fits : (n : ℕ) (m : Module) → Fits (plain_module n m) (free_module n m)
module_fits n m = whole_fits (T.steps P.Step P.plain n) (T.steps F.Step F.free n) (steps_fit n) m

left_to_run : (n fuel : ℕ) (m : Module) (choices : List ℕ) (l : After Value) (events : List Place) (end : End)
    → RanTo (free_module n m) (begin fuel choices) l → Leaves l events end → Ran m events end
left_to_run n fuel m choices (Came v w) events end h e = record {
  bound = n;
  out = Gives v;
  left = w.state;
  runs =
      subst (λ (es : List Place). free_module n m nothing_bound es (Gives v) w.state) (sym (e.0 ∙ h.events)) h.runs;
  is =
      e.1;
}
left_to_run n fuel m choices (Ended stop w) events end h e = record {
  bound = n;
  out = Stops stop;
  left = w.state;
  runs = subst (λ (es : List Place). free_module n m nothing_bound es (Stops stop) w.state) (sym (e.0 ∙ h.events))
      h.runs;
  is = e.1;
}

ran : (m : Module) (fuel : ℕ) (choices : List ℕ) (events : List Place) (end : End)
    → PlainlyRan m fuel choices events end → Ran m events end
ran m fuel choices events end h =
    left_to_run (suc fuel) fuel m choices (plain_module (suc fuel) m (begin fuel choices)) events end
    ((module_fits (suc fuel) m).at (begin fuel choices)) (h.leaves (suc fuel) (omega arith))

-- a plain run is a run
pub plain_is_run : PlainRunsAreRuns
plain_is_run m fuel choices events end (inl h) = inl h
plain_is_run m fuel choices events end (inr h) = inr (h.0, ran m fuel choices events end h.1)
