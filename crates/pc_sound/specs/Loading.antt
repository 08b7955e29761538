-- Loading: the items of a module run one after another, and then the module can be called. Own rule of the profile.
use Rattle.std.specs.Prelude.{◌⊎◌, ℕ, List}
use Rattle.pc_source.specs.declared.place.Place.{Place}
use Rattle.pc_tree.specs.Tree.{Module}
use Rattle.pc_module_rules.specs.Modules.{Labelling, IsLawful}
use Rattle.pc_value.specs.Value.{Out}
use Rattle.pc_machine.specs.State.{State, nothing_bound}
use Rattle.pc_machine.specs.Free.{Step, free}
use Rattle.pc_machine.specs.Evaluation.{exec_items}
use Rattle.pc_machine.specs.Runs.{free_parts}
use Rattle.pc_sound.specs.Values.{HeapTyping}
use Rattle.pc_sound.specs.Ends.{EndsWell}
use Rattle.pc_sound.specs.OutsideCalls.{IsReadyForCalls}
use Rattle.pc_sound.specs.Silent.{HasNoSilentError}
use Rattle.pc_sound.specs.Sound.{HasEvaluatedListed}

-- the items end where the module can be called, in another exception, or cut off
pub record EndsLoaded (m : Module) (labels : Labelling m) (out : Out (Unit {0})) (after : State) : Type 0 where
  pub typing : HeapTyping
  pub ends : EndsWell (λ u. IsReadyForCalls m labels typing after) out

-- if no finding of a module is silent, its items, run from where nothing is bound and in any number of nested steps,
-- have evaluated a listed place or end where the module can be called
abbrev pub LoadingIsSound : Type 0
LoadingIsSound = (m : Module) → HasNoSilentError m → (labels : Labelling m) → IsLawful m labels → (n : ℕ)
    (events : List Place) (out : Out (Unit {0})) (after : State)
    → exec_items Step free (free_parts n) m.imports_dataclass m.items nothing_bound events out after
    → HasEvaluatedListed m events ⊎ EndsLoaded m labels out after
