-- Calls from outside: the callees that a loaded module has for other code, and the way such a call ends.
-- Own rule of the profile.
use Rattle.std.specs.Prelude.{◌≡◌, ◌⊎◌, ℕ, List, [], Some, slice_get}
use Rattle.pc_source.specs.declared.place.Place.{Place}
use Rattle.pc_tree.specs.Tree.{FuncDef, Module}
use Rattle.pc_scope.specs.declared.resolution.NameMeaning.TheVariants as meaning
use Rattle.pc_scope.specs.Bindings.{functions_in}
use Rattle.pc_scope.specs.Resolution.{resolve_in_module}
use Rattle.pc_types.specs.Tree.{Tree, Class}
use Rattle.pc_class.specs.Bases.{bases_of}
use Rattle.pc_class.specs.Facts.{TypedParameter, Method, parameters_of, return_type, classes_of, class_facts_at}
use Rattle.pc_class.specs.Facts.{method_by_name}
use Rattle.pc_module_rules.specs.Modules.{Labelling, IsLawful, constant_types}
use Rattle.pc_value.specs.Value.{Value, Out}
use Rattle.pc_machine.specs.State.{State, Function, a_function}
use Rattle.pc_machine.specs.Names.{global_by_name}
use Rattle.pc_machine.specs.Calls.{Callee, calls_function, calls_class, named_method, NamedValue}
use Rattle.pc_machine.specs.Free.{Step, free}
use Rattle.pc_machine.specs.Evaluation.{call_callee}
use Rattle.pc_machine.specs.Runs.{free_parts}
use Rattle.pc_sound.specs.Values.{HeapTyping, HasType, Extends, IsWell}
use Rattle.pc_sound.specs.Ends.{EndsWell}
use Rattle.pc_sound.specs.Loaded.{IsLoaded}
use Rattle.pc_sound.specs.Arguments.{Suits}
use Rattle.pc_sound.specs.Silent.{HasNoSilentError}
use Rattle.pc_sound.specs.Sound.{HasEvaluatedListed}

-- the module can be called: its heap is well typed, it is loaded, and none of its functions is running
pub record IsReadyForCalls (m : Module) (labels : Labelling m) (k : HeapTyping) (s : State) : Type 0 where
  pub well : IsWell (bases_of m) (classes_of m) k s.heap
  pub loaded : IsLoaded m (constant_types m m.items labels) k s.classes s.globals
  pub no_frame : s.frame ≡ []

-- the module can be called under its lawful labelling and some heap typing
pub record CanBeCalled (m : Module) (s : State) : Type 0 where
  pub labels : Labelling m
  pub lawful : IsLawful m labels
  pub typing : HeapTyping
  pub ready : IsReadyForCalls m labels typing s

-- a callee with its parameters and its result type: a function of the module by its name, a class by its name, or a
-- method of an object, by the type that the caller knows the object as
pub data IsEntrance (m : Module) (k : HeapTyping) (s : State) (callee : Callee) (params : List TypedParameter)
    (gives : Tree) : Type 0 where
  of_function : (word : List ℕ) (i : ℕ) (d : FuncDef) (f : Function) → resolve_in_module m word ≡ meaning.Func i
      → slice_get (functions_in m.items) i ≡ Some d → global_by_name word s.globals ≡ Some (a_function f)
      → callee ≡ calls_function f → params ≡ parameters_of m d.params → gives ≡ return_type m d
      → IsEntrance m k s callee params gives
  of_class : (word : List ℕ) (c : ℕ) → resolve_in_module m word ≡ meaning.Class c → callee ≡ calls_class c
      → params ≡ (class_facts_at (classes_of m) c).fields → gives ≡ Class c → IsEntrance m k s callee params gives
  of_method : (object : Value) (c : ℕ) (word : List ℕ) (q : Method) → HasType (bases_of m) k (Class c) object
      → method_by_name (class_facts_at (classes_of m) c).methods word ≡ Some q
      → named_method s object word ≡ Some callee → params ≡ q.parameters → gives ≡ q.returns
      → IsEntrance m k s callee params gives

-- a call ends as promised: with a value of the type, in another exception or cut off; the module can be called again,
-- and each location has kept its type
pub record EndsAsPromised (m : Module) (labels : Labelling m) (k : HeapTyping) (s : State) (gives : Tree)
    (out : Out Value) (after : State) : Type 0 where
  pub typing : HeapTyping
  pub grows : Extends k typing
  pub ready : IsReadyForCalls m labels typing after
  pub same_globals : after.globals ≡ s.globals
  pub same_classes : after.classes ≡ s.classes
  pub ends : EndsWell (λ v. HasType (bases_of m) typing gives v) out

-- a call with arguments that match, in any number of nested steps, has evaluated a listed place or ends as promised
abbrev pub CallIsSound : (m : Module) → Labelling m → HeapTyping → State → Type 0
CallIsSound m labels k s = (callee : Callee) (params : List TypedParameter) (gives : Tree)
    → IsEntrance m k s callee params gives → (values : List Value) (named : List NamedValue)
    → Suits (bases_of m) k params values named → (n : ℕ) (events : List Place) (out : Out Value) (after : State)
    → call_callee Step free (free_parts n) callee values named s events out after
    → HasEvaluatedListed m events ⊎ EndsAsPromised m labels k s gives out after

-- each call is sound in each state in which a module without silent findings can be called
abbrev pub CallsAreSound : Type 0
CallsAreSound = (m : Module) → HasNoSilentError m → (labels : Labelling m) → IsLawful m labels → (k : HeapTyping)
    (s : State) → IsReadyForCalls m labels k s → CallIsSound m labels k s
