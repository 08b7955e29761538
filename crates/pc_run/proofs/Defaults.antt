-- Defaults, classes and items of a module in a plain run.
use Rattle.std.proofs.Common.{◌≡◌, ◌<◌, ◌≤◌, ℕ, zero, suc, ◌+◌, refl, sym, ap, ◌∙◌, arith, List, [], ◌∷◌, ◌++◌, map}
use Rattle.std.proofs.Common.{length, get_or, drop, Bool, true, false}
use Rattle.std.specs.Prelude.{ℤ, ◌&&◌, Option, Some, None, Result, Ok, Err, is_some, if◌then◌else◌}
use Rattle.std.specs.List.{list_all}
use Rattle.pc_tree.specs.Tree.{Literal, number_literal, negative_literal, text_literal, truth_literal, none_literal}
use Rattle.pc_tree.specs.Tree.{Param, FuncDef, Member, field_member, method_member, ClassDef, def_item, item_of}
use Rattle.pc_value.specs.Value.{Value, whole, Stop, Raised, Outside, TypeError, Cut, Out, Gives, Stops}
use Rattle.pc_value.specs.Actions as action
use Rattle.pc_value.specs.Actions.{gives, stops}
use Rattle.pc_value.specs.Numbers.{number_of_digits, negative_of_digits, fits}
use Rattle.pc_machine.specs.State.{State, FormalParameter, Function, Class, a_function}
use Rattle.pc_machine.specs.Calls.{class_at}
use Rattle.pc_machine.specs.Steps.{value_out}
use Rattle.pc_machine.specs.Plain.{Progress, After, Came, Ended, Step, plain, and_then, comes, act, after_action}
use Rattle.pc_machine.specs.Plain.{later_choices, after_change}
use Rattle.pc_machine.specs.Evaluation as text
use Rattle.pc_machine.specs.Evaluation.{Members, base_number, class_behind, defaults_last, binds_class, binds_global}
use Rattle.pc_machine.specs.Machine.{TellsProgress, TellsOutcome, unit, progress_of, state_of, stop_of, number_within}
use Rattle.pc_machine.specs.Machine.{literal_value, default_value, parameter_of_param, function_of}
use Rattle.std.specs.Prelude.{IfOk, ◌⊎◌}
use Rattle.std.proofs.Common.{inl, inr, subst}
use Rattle.pc_source.specs.declared.fault.OutOfMemory.{OutOfMemory}
use Rattle.pc_tree.specs.Tree.{Module}
use Rattle.pc_tree.specs.Stopping.{is_runnable}
use Rattle.pc_machine.specs.Runs.{Leaves, PlainRun, plain_module, stopped}
use Rattle.pc_machine.specs.Plain.{begin}
use Rattle.pc_run.specs.Traces.{end_of_rust}
use Rattle.pc_run.specs.declared.trace.Trace.{Trace}
use Rattle.pc_source.specs.declared.place.Place.{Place}
use Rattle.pc_tree.specs.declared.tree.Item.{Item as RustItem}
use Rattle.pc_machine.specs.declared.halt.Halt.{Halt}
use Rattle.pc_machine.specs.declared.halt.Halt.TheVariants.{Stopped, OutOfMemory as NoMemory}
use Rattle.pc_machine.specs.declared.machine.Machine.{Machine}
use Rattle.pc_run.specs.Internal.Items.{base_seen, module_items_in, item_in, class_made, has_value, param_has_value}
use Rattle.pc_run.specs.Internal.Items.{have_values, member_has_values, members_have_values, with_field_member}
use Rattle.pc_run.specs.Internal.Items.{with_method, members_made}

-- a literal's value, or the run is cut off
abbrev come_or_cut : Option Value → Step Value
come_or_cut None w = Ended Cut w
come_or_cut (Some v) w = Came v w

-- the value made, if each default has a value; otherwise the run is cut off
abbrev pub made_if : {A : Type 0} → Bool → A → Step A
made_if true a w = Came a w
made_if false a w = Ended Cut w

kept : (cs : List ℕ) → later_choices false cs ≡ cs
kept [] = refl
kept (c ∷ cs) = refl

untouched : (w : Progress) → after_action false w.state.heap w ≡ w
untouched w = ap (λ (cs : List ℕ). record w { choices = cs }) (kept w.choices)

number_case : (b : Bool) (n : ℤ) (w : Progress) → comes (value_out (if b then gives (whole n) else stops Cut))
    (after_action false w.state.heap w) ≡ come_or_cut (if b then Some (whole n) else None) w
number_case true n w = ap (λ v. Came (whole n) v) (untouched w)
number_case false n w = ap (λ v. Ended Cut v) (untouched w)

literal_run : (l : Literal) (w : Progress) → text.make_literal Step plain l w ≡ come_or_cut (literal_value l) w
literal_run (number_literal p digits) w = number_case (fits (number_of_digits digits)) (number_of_digits digits) w
literal_run (negative_literal p digits) w = number_case (fits (negative_of_digits digits)) (negative_of_digits digits) w
literal_run (text_literal p bytes) w = refl
literal_run (truth_literal p b) w = refl
literal_run (none_literal p) w = refl

some_or_cut : (v : Option Value) (w : Progress) → and_then (come_or_cut v w) (λ a. Came (Some a)) ≡ made_if (is_some v)
    v w
some_or_cut None w = refl
some_or_cut (Some v) w = refl

default_run : (d : Option Literal) (w : Progress) → text.make_default Step plain d w ≡ made_if (has_value d)
    (default_value d) w
default_run None w = refl
default_run (Some l) w = ap (λ r. and_then r (λ a. Came (Some a))) (literal_run l w) ∙ some_or_cut (literal_value l) w

made_of : {A B : Type 0} (b : Bool) (x : A) (f : A → B) (w : Progress) → and_then (made_if b x w) (λ a. Came (f a))
    ≡ made_if b (f x) w
made_of true x f w = refl
made_of false x f w = refl

parameters_then : (n : List ℕ) (d : Option Value) (ps : List Param) (b : Bool) (w : Progress)
    → ((v : Progress) → text.make_parameters Step plain ps v ≡ made_if (have_values ps) (map parameter_of_param ps) v)
    → and_then (made_if b d w) (λ x v. and_then (text.make_parameters Step plain ps v)
    (λ (others : List FormalParameter). Came (record { name = n; default = x } ∷ others))) ≡ made_if (b && have_values ps)
    (record { name = n; default = d } ∷ map parameter_of_param ps) w
parameters_then n d ps true w rest =
    ap (λ r. and_then r (λ (others : List FormalParameter). Came (record { name = n; default = d } ∷ others))) (rest w)
    ∙ made_of (have_values ps) (map parameter_of_param ps) (λ (others : List FormalParameter).
    record { name = n; default = d } ∷ others) w
parameters_then n d ps false w rest = refl

pub parameters_run : (ps : List Param) (w : Progress) → text.make_parameters Step plain ps w ≡ made_if (have_values ps)
    (map parameter_of_param ps) w
parameters_run [] w = refl
parameters_run (p ∷ ps) w =
    ap (λ r. and_then r (λ x v. and_then (text.make_parameters Step plain ps v)
    (λ (others : List FormalParameter). Came (record { name = p.name.text; default = x } ∷ others))))
    (default_run p.default w) ∙ parameters_then p.name.text (default_value p.default) ps (has_value p.default) w
    (parameters_run ps)

pub function_run : (f : FuncDef) (w : Progress) → text.make_function Step plain f w ≡ made_if (have_values f.params)
    (function_of f) w
function_run f w =
    ap (λ r. and_then r (λ (ps : List FormalParameter). Came (record { name = f.name; parameters = ps; body = f.body })))
    (parameters_run f.params w) ∙ made_of (have_values f.params) (map parameter_of_param f.params)
    (λ (ps : List FormalParameter). record { name = f.name; parameters = ps; body = f.body }) w

-- ---- members

field_then : (n : List ℕ) (d : Option Literal) (ms : List Member) (b : Bool) (w : Progress)
    → ((v : Progress) → text.make_members Step plain ms v ≡ made_if (members_have_values ms) (members_made ms) v)
    → and_then (made_if b (default_value d) w) (λ x v. and_then (text.make_members Step plain ms v)
    (λ (others : Members). Came (record {
      fields = record { name = n; default = x } ∷ others.fields;
      methods =
          others.methods;
    }))) ≡ made_if (b && members_have_values ms) (with_field_member n d (members_made ms)) w
field_then n d ms true w rest = ap (λ r. and_then r (λ (others : Members). Came (with_field_member n d others)))
    (rest w) ∙ made_of (members_have_values ms) (members_made ms) (with_field_member n d) w
field_then n d ms false w rest = refl

method_then : (f : FuncDef) (ms : List Member) (b : Bool) (w : Progress)
    → ((v : Progress) → text.make_members Step plain ms v ≡ made_if (members_have_values ms) (members_made ms) v)
    → and_then (made_if b (function_of f) w) (λ x v. and_then (text.make_members Step plain ms v)
    (λ (others : Members). Came (record { fields = others.fields; methods = x ∷ others.methods })))
    ≡ made_if (b && members_have_values ms) (with_method f (members_made ms)) w
method_then f ms true w rest = ap (λ r. and_then r (λ (others : Members). Came (with_method f others))) (rest w)
    ∙ made_of (members_have_values ms) (members_made ms) (with_method f) w
method_then f ms false w rest = refl

pub members_run : (ms : List Member) (w : Progress) → text.make_members Step plain ms w
    ≡ made_if (members_have_values ms) (members_made ms) w
members_run [] w = refl
members_run (field_member f ∷ ms) w =
    ap (λ r. and_then r (λ x v. and_then (text.make_members Step plain ms v)
    (λ (others : Members). Came (record {
      fields = record { name = f.name.text; default = x } ∷ others.fields;
      methods =
          others.methods;
    })))) (default_run f.default w) ∙ field_then f.name.text f.default ms (has_value f.default) w
    (members_run ms)
members_run (method_member f ∷ ms) w =
    ap (λ r. and_then r (λ x v. and_then (text.make_members Step plain ms v)
    (λ (others : Members). Came (record { fields = others.fields; methods = x ∷ others.methods })))) (function_run f w)
    ∙ method_then f ms (have_values f.params) w (members_run ms)

-- ---- a class

-- the class is bound to its name
abbrev bound_class : ClassDef → Class → Unit {0} → Step (Unit {0})
bound_class c k u w = Came tt (after_change (binds_class c.name.text k) w)

-- where its fields are in order
abbrev checked : Bool → Out (Unit {0})
checked b = if b then Gives tt else Stops (Raised TypeError)

abbrev bound_if : Bool → ClassDef → Class → Step (Unit {0})
bound_if b c k w = and_then (comes (checked b) w) (bound_class c k)

-- the making of a class after its members, and after its base
abbrev from_members : ClassDef → Option ℕ → Members → Step (Unit {0})
from_members c base own w =
    bound_if (defaults_last (class_behind (class_at w.state.classes base) own (length w.state.classes)).fields) c
    (class_behind (class_at w.state.classes base) own (length w.state.classes)) w

abbrev from_base : ClassDef → Option ℕ → Step (Unit {0})
from_base c base w = and_then (text.make_members Step plain c.members w) (from_members c base)

pub class_unbased : (c : ClassDef) (w : Progress) (s : Stop) → base_number c.base w.state ≡ Stops s
    → class_made true c w ≡ Ended s w
class_unbased c w s h = ap (λ b. and_then (comes b w) (from_base c)) h

-- the same as the tracer tells it
pub unbased : (c : ClassDef) (m : Machine) (x : Halt) → TellsOutcome base_seen (Err x) (base_number c.base (state_of m))
    → TellsProgress unit (Err x) m (class_made true c (progress_of m))
unbased c m (Stopped s) h = class_unbased c (progress_of m) (stop_of s) h
unbased c m (NoMemory error) h = tt

class_based : (c : ClassDef) (w : Progress) (base : Option ℕ) → base_number c.base w.state ≡ Gives base
    → class_made true c w ≡ from_base c base w
class_based c w base h = ap (λ b. and_then (comes b w) (from_base c)) h

pub class_unvalued : (c : ClassDef) (w : Progress) (base : Option ℕ) → base_number c.base w.state ≡ Gives base
    → members_have_values c.members ≡ false → class_made true c w ≡ Ended Cut w
class_unvalued c w base h k = class_based c w base h ∙ ap (λ r. and_then r (from_members c base))
    (members_run c.members w ∙ ap (λ b. made_if b (members_made c.members) w) k)

class_valued : (c : ClassDef) (w : Progress) (base : Option ℕ) → base_number c.base w.state ≡ Gives base
    → members_have_values c.members ≡ true → class_made true c w ≡ from_members c base (members_made c.members) w
class_valued c w base h k = class_based c w base h ∙ ap (λ r. and_then r (from_members c base)) (members_run c.members w
    ∙ ap (λ b. made_if b (members_made c.members) w) k)

pub class_disordered : (c : ClassDef) (w : Progress) (base : Option ℕ) (k : Class) → base_number c.base w.state
    ≡ Gives base → members_have_values c.members ≡ true → k ≡ class_behind (class_at w.state.classes base)
    (members_made c.members) (length w.state.classes) → defaults_last k.fields ≡ false
    → class_made true c w ≡ Ended (Raised TypeError) w
class_disordered c w base k h v e d = class_valued c w base h v
    ∙ ap (λ (b : Bool). bound_if b c (class_behind (class_at w.state.classes base) (members_made c.members)
    (length w.state.classes)) w) (ap (λ (x : Class). defaults_last x.fields) (sym e) ∙ d)

pub class_done : (c : ClassDef) (w : Progress) (base : Option ℕ) (k : Class) → base_number c.base w.state ≡ Gives base
    → members_have_values c.members ≡ true → k ≡ class_behind (class_at w.state.classes base) (members_made c.members)
    (length w.state.classes) → defaults_last k.fields ≡ true → class_made true c w
    ≡ Came tt (after_change (binds_class c.name.text k) w)
class_done c w base k h v e d = class_valued c w base h v
    ∙ ap (λ (b : Bool). bound_if b c (class_behind (class_at w.state.classes base) (members_made c.members)
    (length w.state.classes)) w) (ap (λ (x : Class). defaults_last x.fields) (sym e) ∙ d)
    ∙ ap (λ (x : Class). bound_class c x tt w) (sym e)

-- ---- items

items_at : (n : ℕ) (d : Bool) (xs : List RustItem) (i : ℕ) (x : RustItem) (w : Progress) → i < length xs
    → x ≡ get_or xs i x → module_items_in n d (map item_of (drop i xs)) w ≡ and_then (item_in n d (item_of x) w)
    (λ u. module_items_in n d (map item_of (drop (suc i) xs)))
items_at n d [] i x w lt e = absurd (omega arith)
items_at n d (y ∷ ys) zero x w lt e = ap (λ z. and_then (item_in n d (item_of z) w)
    (λ u. module_items_in n d (map item_of ys))) (sym e)
items_at n d (y ∷ ys) (suc i) x w lt e = items_at n d ys i x w (omega arith) e

-- the next item
pub items_next : (n : ℕ) (d : Bool) (xs : List RustItem) (i : ℕ) (x : RustItem) (w : Progress) → i < length xs
    → x ≡ get_or xs i x → module_items_in n d (map item_of (drop i xs)) w ≡ and_then (item_in n d (item_of x) w)
    (λ u. module_items_in n d (map item_of (drop (i + 1) xs)))
items_next n d xs i x w lt e = let h : suc i ≡ i + 1 = omega arith in items_at n d xs i x w lt e
    ∙ ap (λ k. and_then (item_in n d (item_of x) w) (λ u. module_items_in n d (map item_of (drop k xs)))) h

pub items_end : (n : ℕ) (d : Bool) (xs : List RustItem) (i : ℕ) (w : Progress) → length xs ≤ i
    → module_items_in n d (map item_of (drop i xs)) w ≡ Came tt w
items_end n d [] zero w h = refl
items_end n d [] (suc i) w h = refl
items_end n d (y ∷ ys) zero w h = absurd (omega arith)
items_end n d (y ∷ ys) (suc i) w h = items_end n d ys i w (omega arith)

pub def_unvalued : (n : ℕ) (d : Bool) (p : Place) (f : FuncDef) (w : Progress) → have_values f.params ≡ false
    → item_in n d (def_item p f) w ≡ Ended Cut w
def_unvalued n d p f w h =
    ap (λ r. and_then r (λ (x : Function) v. Came tt (after_change (binds_global f.name.text (a_function x)) v)))
    (function_run f w ∙ ap (λ b. made_if b (function_of f) w) h)

pub def_done : (n : ℕ) (d : Bool) (p : Place) (f : FuncDef) (w : Progress) → have_values f.params ≡ true
    → item_in n d (def_item p f) w ≡ Came tt (after_change (binds_global f.name.text (a_function (function_of f))) w)
def_done n d p f w h =
    ap (λ r. and_then r (λ (x : Function) v. Came tt (after_change (binds_global f.name.text (a_function x)) v)))
    (function_run f w ∙ ap (λ b. made_if b (function_of f) w) h)

-- ---- the trace of a run

pub run_is_plain : (m : Module) (fuel : ℕ) (choices : List ℕ) (r : Result Trace OutOfMemory) → is_runnable m ≡ true
    → ((n : ℕ) → fuel < n → IfOk r (λ t. Leaves (plain_module n m (begin fuel choices)) t.events.items
    (end_of_rust t.end))) → IfOk r (λ t. PlainRun m fuel choices t.events.items (end_of_rust t.end))
run_is_plain m fuel choices (Ok t) h leaves = inr (h, record { leaves = leaves })
run_is_plain m fuel choices (Err e) h leaves = tt

-- the same from the progress that the run begins with
pub run_from : (m : Module) (fuel : ℕ) (choices : List ℕ) (r : Result Trace OutOfMemory) → is_runnable m ≡ true
    → (w : Progress) → w ≡ begin fuel choices → ((n : ℕ) → w.fuel < n
    → IfOk r (λ t. Leaves (plain_module n m w) t.events.items (end_of_rust t.end)))
    → IfOk r (λ t. PlainRun m fuel choices t.events.items (end_of_rust t.end))
run_from m fuel choices r h w e leaves = run_is_plain m fuel choices r h
    (subst (λ (v : Progress). (n : ℕ) → v.fuel < n → IfOk r (λ t. Leaves (plain_module n m v) t.events.items
    (end_of_rust t.end))) e leaves)

-- a module that a code stops
pub never_runs : (m : Module) (fuel : ℕ) (choices : List ℕ) (events : List Place) → is_runnable m ≡ false → events ≡ []
    → PlainRun m fuel choices events (stopped Outside)
never_runs m fuel choices events h e = inl (h, record { quiet = e; is = refl })
