-- A call that passes the border meets the conditions of the law of calls from outside. Own rule of the profile.
use Rattle.std.specs.Prelude.{◌≡◌, ◌⊎◌, ℕ, zero, suc, List, [], ◌∷◌, Some}
use Rattle.pc_source.specs.declared.place.Place.{Place}
use Rattle.pc_tree.specs.Tree.{Module}
use Rattle.pc_types.specs.Tree.{Tree}
use Rattle.pc_types.specs.Below.{Bases}
use Rattle.pc_class.specs.Bases.{bases_of}
use Rattle.pc_class.specs.Facts.{TypedParameter}
use Rattle.pc_module_rules.specs.Modules.{Labelling, IsLawful, constant_types}
use Rattle.pc_value.specs.Value.{Value, Heap, Out}
use Rattle.pc_machine.specs.State.{State}
use Rattle.pc_machine.specs.Calls.{Callee, NamedValue}
use Rattle.pc_machine.specs.Free.{Step, free}
use Rattle.pc_machine.specs.Evaluation.{call_callee}
use Rattle.pc_machine.specs.Runs.{free_parts}
use Rattle.pc_sound.specs.Values.{HeapTyping, HasType}
use Rattle.pc_sound.specs.Arguments.{Suits}
use Rattle.pc_sound.specs.Border.{ValueDemand, fitting_typing}
use Rattle.pc_sound.specs.OutsideCalls.{IsReadyForCalls, IsEntrance, EndsAsPromised}
use Rattle.pc_sound.specs.Silent.{HasNoSilentError}
use Rattle.pc_sound.specs.Sound.{HasEvaluatedListed}

-- each demand is met: its value is of its type
abbrev pub AreMet : Bases → HeapTyping → List ValueDemand → Type 0
AreMet bases k [] = Unit {0}
AreMet bases k (d ∷ ds) = HasType bases k d.type d.value × AreMet bases k ds

-- the module can be called, the objects are of their classes, and the arguments match the parameters
pub record IsFitting (m : Module) (labels : Labelling m) (k : HeapTyping) (s : State) (objects : List ValueDemand)
    (params : List TypedParameter) (values : List Value) (named : List NamedValue) : Type 0 where
  pub ready : IsReadyForCalls m labels k s
  pub met : AreMet (bases_of m) k objects
  pub suit : Suits (bases_of m) k params values named

-- in a state in which the module can be called, whatever other code does to the heap, a call that fits meets those
-- conditions under the heap typing found
abbrev pub FittingIsRight : Type 0
FittingIsRight = (m : Module) (labels : Labelling m) (k : HeapTyping) (s : State) → IsReadyForCalls m labels k s → (heap : Heap)
    (objects : List ValueDemand) (params : List TypedParameter) (values : List Value) (named : List NamedValue)
    (found : HeapTyping) → fitting_typing m (constant_types m m.items labels) (record s { heap = heap }) objects params values
    named ≡ Some found → IsFitting m labels found (record s { heap = heap }) objects params values named

-- if no finding of a module is silent, a call that fits has evaluated a listed place or ends as promised
abbrev pub FittingCallsAreSound : Type 0
FittingCallsAreSound = (m : Module) → HasNoSilentError m → (labels : Labelling m) → IsLawful m labels → (k : HeapTyping)
    (s : State) → IsReadyForCalls m labels k s → (heap : Heap) (objects : List ValueDemand) (params : List TypedParameter)
    (values : List Value) (named : List NamedValue) (found : HeapTyping)
    → fitting_typing m (constant_types m m.items labels) (record s { heap = heap }) objects params values named ≡ Some found
    → (callee : Callee) (gives : Tree) → IsEntrance m found (record s { heap = heap }) callee params gives
    → (n : ℕ) (events : List Place) (out : Out Value) (after : State)
    → call_callee Step free (free_parts n) callee values named (record s { heap = heap }) events out after
    → HasEvaluatedListed m events ⊎ EndsAsPromised m labels found (record s { heap = heap }) gives out after

-- a call ends as promised, and this holds of the state after it
pub record GoesOnFrom (m : Module) (labels : Labelling m) (further : State → Type 0) (k : HeapTyping) (s : State)
    (gives : Tree) (out : Out Value) (after : State) : Type 0 where
  pub promised : EndsAsPromised m labels k s gives out after
  pub next : further after

-- a number of calls, one after another: before each one other code changes the heap at will, and the call fits; it has
-- evaluated a listed place, and nothing is said of those after it, or it ends as promised
abbrev pub FittingCallsGoOn : (m : Module) → Labelling m → ℕ → State → Type 0
FittingCallsGoOn m labels zero s = Unit {0}
FittingCallsGoOn m labels (suc left) s = (heap : Heap) (objects : List ValueDemand) (params : List TypedParameter)
    (values : List Value) (named : List NamedValue) (found : HeapTyping)
    → fitting_typing m (constant_types m m.items labels) (record s { heap = heap }) objects params values named ≡ Some found
    → (callee : Callee) (gives : Tree) → IsEntrance m found (record s { heap = heap }) callee params gives
    → (n : ℕ) (events : List Place) (out : Out Value) (after : State)
    → call_callee Step free (free_parts n) callee values named (record s { heap = heap }) events out after
    → HasEvaluatedListed m events ⊎ GoesOnFrom m labels (λ s'. FittingCallsGoOn m labels left s') found
    (record s { heap = heap }) gives out after

-- any number of calls that fit is sound in this sense, from each state in which a module without silent findings can be
-- called
abbrev pub FittingSequencesAreSound : Type 0
FittingSequencesAreSound = (m : Module) → HasNoSilentError m → (labels : Labelling m) → IsLawful m labels
    → (k : HeapTyping) (s : State) → IsReadyForCalls m labels k s → (calls : ℕ) → FittingCallsGoOn m labels calls s
