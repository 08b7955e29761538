-- Loading a module without silent errors, and calls from outside one after another.
use Rattle.std.proofs.Common.{zero, suc, List, subst, sym, inl, inr, Contains}
use Rattle.std.specs.Prelude.{◌⊎◌}
use Rattle.pc_source.specs.declared.place.Place.{Place}
use Rattle.pc_tree.specs.Tree.{Module}
use Rattle.pc_scope.specs.Bindings.{functions_in}
use Rattle.pc_module_rules.specs.Modules.{Labelling, IsLawful, constant_types}
use Rattle.pc_value.specs.Value.{Out}
use Rattle.pc_machine.specs.State.{State}
use Rattle.pc_sound.specs.Values.{HeapTyping}
use Rattle.pc_sound.specs.OutsideCalls.{IsReadyForCalls}
use Rattle.pc_sound.specs.Loading.{EndsLoaded, LoadingIsSound}
use Rattle.pc_sound.specs.CallSequences.{CallSequencesAreSound}
use Rattle.pc_sound.specs.Silent.{HasNoSilentError}
use Rattle.pc_sound.specs.Sound.{HasEvaluatedListed}
use Rattle.pc_sound.proofs.Steps.Judgment.{HasListed}
use Rattle.pc_sound.proofs.Steps.LeadingSteps.{ends_as}
use Rattle.pc_sound.proofs.Steps.ModuleSteps.{Arrives}
use Rattle.pc_sound.proofs.Modules.ModuleOrder.{Between}
use Rattle.pc_sound.proofs.Modules.ModuleItems.{world_at_end}
use Rattle.pc_sound.proofs.Modules.WholeModule.{IsListedPlace, Last, Premises, items_run}
use Rattle.pc_sound.proofs.Modules.Premises.{premises}
use Rattle.pc_sound.proofs.Modules.Soundness.{left_of}
use Rattle.pc_sound.proofs.Modules.CallsFromOutside.{calls_are_sound}

module _ (m : Module) (labels : Labelling m) (lawful : IsLawful m labels) (clean : HasNoSilentError m) where
  abbrev Held : Premises m labels
  Held = premises m labels lawful clean (left_of m labels lawful clean)

  -- when the last item has run, the module can be called
  ready_at_end : (k : HeapTyping) (s : State) → Between m (IsListedPlace m) (Last m labels).constants
      (functions_in m.items) (Last m labels).classes (Last m labels).names k s → IsReadyForCalls m labels k s
  ready_at_end k s b = record {
    well = b.well;
    loaded = world_at_end m (constant_types m m.items labels) (IsListedPlace m) (Last m labels).constants
        (Last m labels).classes (Last m labels).names k s.classes s.globals Held.last_types Held.last_classes b.bound;
    no_frame = b.frame;
  }

  loaded : (events : List Place) (out : Out (Unit {0})) (after : State)
      → HasListed (IsListedPlace m) events ⊎ Arrives (λ k u s. Between m (IsListedPlace m) (Last m labels).constants
      (functions_in m.items) (Last m labels).classes (Last m labels).names k s) out after
      → HasEvaluatedListed m events ⊎ EndsLoaded m labels out after
  loaded events out after (inl h) = inl (record {
    finding = h.is.finding;
    found = h.is.found;
    event = subst (λ p. Contains events p) (sym h.is.at) h.event;
  })
  loaded events out after (inr a) = inr (record {
    typing = a.typing;
    ends = ends_as (λ u. Between m (IsListedPlace m) (Last m labels).constants (functions_in m.items)
        (Last m labels).classes (Last m labels).names a.typing after) (λ u. IsReadyForCalls m labels a.typing after) out
        (λ u b. ready_at_end a.typing after b) a.ends;
  })

-- the law of loading
pub loading_is_sound : LoadingIsSound
loading_is_sound m clean labels lawful n events out after r = loaded m labels lawful clean events out after
    (items_run m labels lawful clean (premises m labels lawful clean (left_of m labels lawful clean)) n events out after
    r)

-- the law of calls one after another
pub call_sequences_are_sound : CallSequencesAreSound
call_sequences_are_sound m clean labels lawful k s ready zero = tt
call_sequences_are_sound m clean labels lawful k s ready (suc left) =
    λ callee params gives entrance values named suit n events out after r.
    elim (calls_are_sound m clean labels lawful k s ready callee params gives entrance values named suit n events out
    after r) [
      | inl h ↦ inl h
      | inr e ↦ inr (record {
        promised = e;
        next = λ k' s' grows ready'. call_sequences_are_sound m clean labels lawful k' s' ready' left;
      })
    ]
