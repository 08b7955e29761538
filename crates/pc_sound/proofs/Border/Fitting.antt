-- If a call fits, the module can be called under the heap typing found, and the arguments match.
use Rattle.std.proofs.Common.{◌≡◌, zero, suc, List, [], ◌∷◌, ◌++◌, refl, subst, inl, inr}
use Rattle.std.specs.Prelude.{Bool as Test, true, false, ◌&&◌, if◌then◌else◌, Some, None}
use Rattle.std.proofs.lemmas.Bool.{and_parts}
use Rattle.std.proofs.lemmas.Option.{none-some, same_Some}
use Rattle.pc_tree.specs.Tree.{Module}
use Rattle.pc_scope.specs.Bindings.{constants_in}
use Rattle.pc_types.specs.Below.{Bases}
use Rattle.pc_class.specs.Bases.{bases_of}
use Rattle.pc_class.specs.Facts.{TypedParameter, classes_of}
use Rattle.pc_module_rules.specs.Modules.{Labelling, constant_types}
use Rattle.pc_value.specs.Value.{Value, Heap}
use Rattle.pc_machine.specs.State.{State}
use Rattle.pc_machine.specs.Calls.{NamedValue}
use Rattle.pc_sound.specs.Values.{HeapTyping}
use Rattle.pc_sound.specs.Typed.{has_type, is_well, suits}
use Rattle.pc_sound.specs.Border.{ValueDemand, constant_demands, argument_demands, are_met, typing_found, passing_typing}
use Rattle.pc_sound.specs.OutsideCalls.{IsReadyForCalls}
use Rattle.pc_sound.specs.Fitting.{AreMet, IsFitting, FittingIsRight, FittingCallsAreSound}
use Rattle.pc_sound.specs.Fitting.{FittingSequencesAreSound}
use Rattle.pc_sound.proofs.Border.TypedValues.{typed, well, suited}
use Rattle.pc_sound.proofs.Border.LoadedAgain.{met_parts, loaded_again}
use Rattle.pc_sound.proofs.Modules.CallsFromOutside.{calls_are_sound}

passed : (b : Test) (k found : HeapTyping) → (if b then Some k else None) ≡ Some found → (b ≡ true) × (k ≡ found)
passed true k found e = (refl, same_Some _ _ e)
passed false k found e = absurd (none-some _ e)

met : (bases : Bases) (k : HeapTyping) (ds : List ValueDemand) → are_met bases k ds ≡ true → AreMet bases k ds
met bases k [] e = tt
met bases k (d ∷ ds) e =
    let h = and_parts (has_type bases k d.type d.value) (are_met bases k ds) e in
    (typed bases k d.type d.value h.0, met bases k ds h.1)

module _ (m : Module) (labels : Labelling m) (k : HeapTyping) (s : State) (ready : IsReadyForCalls m labels k s) (heap : Heap)
    (objects : List ValueDemand) (params : List TypedParameter) (values : List Value) (named : List NamedValue) where
  -- the demands on the constants
  abbrev OfConstants : List ValueDemand
  OfConstants = constant_demands (constants_in m.items) (constant_types m m.items labels) s.globals

  -- a heap typing that passes
  found_fits : (tried found : HeapTyping) → passing_typing m tried heap (OfConstants ++ objects) params values named
      ≡ Some found → IsFitting m labels found (record s { heap = heap }) objects params values named
  found_fits tried found e =
      let h = passed (is_well (bases_of m) (classes_of m) tried heap
      && (are_met (bases_of m) tried (OfConstants ++ objects) && suits (bases_of m) tried params values named)) tried
      found e in
      let a = and_parts (is_well (bases_of m) (classes_of m) tried heap)
      (are_met (bases_of m) tried (OfConstants ++ objects) && suits (bases_of m) tried params values named) h.0 in
      let b = and_parts (are_met (bases_of m) tried (OfConstants ++ objects))
      (suits (bases_of m) tried params values named) a.1 in
      let c = met_parts (bases_of m) tried OfConstants objects b.0 in
      subst (λ x. IsFitting m labels x (record s { heap = heap }) objects params values named) h.1 (record {
        ready = record {
          well = well (bases_of m) tried (classes_of m) heap a.0;
          loaded = loaded_again m (constant_types m m.items labels) k tried s.classes s.globals c.0 ready.loaded;
          no_frame = ready.no_frame;
        };
        met = met (bases_of m) tried objects c.1;
        suit = suited (bases_of m) tried params values named b.1;
      })

-- the law of what fits
pub fitting_is_right : FittingIsRight
fitting_is_right m labels k s ready heap objects params values named found e =
    found_fits m labels k s ready heap objects params values named
    (typing_found (classes_of m) heap (constant_demands (constants_in m.items) (constant_types m m.items labels)
    s.globals ++ (objects ++ argument_demands params values named))) found e

-- the law of calls that fit
pub fitting_calls_are_sound : FittingCallsAreSound
fitting_calls_are_sound m clean labels lawful k s ready heap objects params values named found e callee gives entrance n
    events out after r =
    let f = fitting_is_right m labels k s ready heap objects params values named found e in
    calls_are_sound m clean labels lawful found (record s { heap = heap }) f.ready callee params gives entrance values
    named f.suit n events out after r

-- the law of calls that fit, one after another
pub fitting_sequences_are_sound : FittingSequencesAreSound
fitting_sequences_are_sound m clean labels lawful k s ready zero = tt
fitting_sequences_are_sound m clean labels lawful k s ready (suc left) =
    λ heap objects params values named found e callee gives entrance n events out after r.
    elim (fitting_calls_are_sound m clean labels lawful k s ready heap objects params values named found e callee gives
    entrance n events out after r) [
      | inl h ↦ inl h
      | inr p ↦ inr (record {
        promised = p;
        next = fitting_sequences_are_sound m clean labels lawful p.typing after p.ready left;
      })
    ]
