-- Calls from outside, one after another. Own rule of the profile.
use Rattle.std.specs.Prelude.{◌⊎◌, ℕ, zero, suc, List}
use Rattle.pc_source.specs.declared.place.Place.{Place}
use Rattle.pc_tree.specs.Tree.{Module}
use Rattle.pc_types.specs.Tree.{Tree}
use Rattle.pc_class.specs.Bases.{bases_of}
use Rattle.pc_class.specs.Facts.{TypedParameter}
use Rattle.pc_module_rules.specs.Modules.{Labelling, IsLawful}
use Rattle.pc_value.specs.Value.{Value, Out}
use Rattle.pc_machine.specs.State.{State}
use Rattle.pc_machine.specs.Calls.{Callee, NamedValue}
use Rattle.pc_machine.specs.Free.{Step, free}
use Rattle.pc_machine.specs.Evaluation.{call_callee}
use Rattle.pc_machine.specs.Runs.{free_parts}
use Rattle.pc_sound.specs.Values.{HeapTyping, Extends}
use Rattle.pc_sound.specs.Arguments.{Suits}
use Rattle.pc_sound.specs.OutsideCalls.{IsReadyForCalls, IsEntrance, EndsAsPromised}
use Rattle.pc_sound.specs.Silent.{HasNoSilentError}
use Rattle.pc_sound.specs.Sound.{HasEvaluatedListed}

-- a call ends as promised; and under any heap typing that extends the one after the call, this holds of the next state
-- in which the module can be called, whatever other code does to the heap until then
pub record GoesOnWith (m : Module) (labels : Labelling m) (further : HeapTyping → State → Type 0) (k : HeapTyping)
    (s : State) (gives : Tree) (out : Out Value) (after : State) : Type 0 where
  pub promised : EndsAsPromised m labels k s gives out after
  pub next : (k' : HeapTyping) (s' : State) → Extends promised.typing k' → IsReadyForCalls m labels k' s' → further k' s'

-- a number of calls, one after another, each of anything that can be called then, with arguments that match: each has
-- evaluated a listed place, and nothing is said of those after it, or it ends as promised
abbrev pub CallsGoOn : (m : Module) → Labelling m → ℕ → HeapTyping → State → Type 0
CallsGoOn m labels zero k s = Unit {0}
CallsGoOn m labels (suc left) k s = (callee : Callee) (params : List TypedParameter) (gives : Tree)
    → IsEntrance m k s callee params gives → (values : List Value) (named : List NamedValue)
    → Suits (bases_of m) k params values named → (n : ℕ) (events : List Place) (out : Out Value) (after : State)
    → call_callee Step free (free_parts n) callee values named s events out after
    → HasEvaluatedListed m events ⊎ GoesOnWith m labels (λ k' s'. CallsGoOn m labels left k' s') k s gives out after

-- any number of calls is sound in this sense, from each state in which a module without silent findings can be called
abbrev pub CallSequencesAreSound : Type 0
CallSequencesAreSound = (m : Module) → HasNoSilentError m → (labels : Labelling m) → IsLawful m labels
    → (k : HeapTyping) (s : State) → IsReadyForCalls m labels k s → (calls : ℕ) → CallsGoOn m labels calls k s
