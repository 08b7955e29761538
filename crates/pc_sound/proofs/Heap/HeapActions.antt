-- Actions that keep the heap well typed, as steps.
use Rattle.std.proofs.Common.{◌≡◌, List, sym, ap, subst, inl, inr}
use Rattle.std.specs.Prelude.{◌⊎◌}
use Rattle.pc_source.specs.declared.place.Place.{Place}
use Rattle.pc_types.specs.Tree.{Tree}
use Rattle.pc_types.specs.Below.{Bases}
use Rattle.pc_flow.specs.Environment.{Env}
use Rattle.pc_value.specs.Value.{Value, Stop, Out, Stops, Raised, Other, Outside, Cut}
use Rattle.pc_value.specs.Actions as action
use Rattle.pc_value.specs.Actions.{Action, Outcome, Free}
use Rattle.pc_value.specs.Outcomes.{action_result}
use Rattle.pc_machine.specs.State.{State}
use Rattle.pc_machine.specs.Steps.{value_out}
use Rattle.pc_machine.specs.Free.{act}
use Rattle.pc_sound.specs.Values.{HeapTyping, HasType, IsWell}
use Rattle.pc_sound.specs.KeptHeaps.{OutcomeHas, ActsWell}
use Rattle.pc_sound.specs.Ends.{EndsWell}
use Rattle.pc_sound.proofs.Steps.Judgment.{HasListed, Around, IsWellTyped, KeepsState, IsSafe}
use Rattle.pc_sound.proofs.Values.ValuesFlow.{extends_refl}

-- an outcome of a type as an end in a value
pub outcome_ends : (bases : Bases) (k : HeapTyping) (t : Tree) (o : Outcome) → OutcomeHas bases k t o
    → EndsWell (λ w. HasType bases k t w) (value_out o)
outcome_ends bases k t (action.gives v) h = h
outcome_ends bases k t (action.iterates over) h = absurd h
outcome_ends bases k t action.finished h = absurd h
outcome_ends bases k t (action.stops Other) h = h
outcome_ends bases k t (action.stops Cut) h = h
outcome_ends bases k t (action.stops Outside) h = h
outcome_ends bases k t (action.stops (Raised e)) h = h

-- an action that keeps the heap well typed, and comes to a value of a type
pub acting_safe : (around : Around) (env : Env) (known : HeapTyping → Type 0) (a : Action) (t : Tree)
    → ((free : Free) (k : HeapTyping) (s : State) → known k → IsWellTyped around env k s
    → ActsWell around.bases around.classes k t (action_result free a s.heap))
    → IsSafe around env known (act value_out a) (λ k v. HasType around.bases k t v)
acting_safe around env known a t acts = record { run = go }
  where
    still : (k : HeapTyping) (s s' : State) (o : Out Value) (stop : Stop) → s' ≡ s → o ≡ Stops stop
        → EndsWell (λ w. HasType around.bases k t w) (Stops stop) → IsWellTyped around env k s
        → KeepsState around (λ k v. HasType around.bases k t v) k s o s'
    still k s s' o stop same is well st = record {
      typing = k;
      grows = extends_refl k;
      well = subst (λ x. IsWell around.bases around.classes k x.heap) (sym same) st.well;
      same_frame = ap (λ x. x.frame) same;
      same_globals = ap (λ x. x.globals) same;
      same_classes = ap (λ x. x.classes) same;
      ends = subst (λ x. EndsWell (λ w. HasType around.bases k t w) x) (sym is) well;
    }

    go : (k : HeapTyping) (s s' : State) (events : List Place) (o : Out Value) → known k → IsWellTyped around env k s
        → act value_out a s events o s' → HasListed around.listed events
        ⊎ KeepsState around (λ k v. HasType around.bases k t v) k s o s'
    go k s s' events o knows st (inl r) =
        let w = acts r.free k s knows st in
        inr (record {
          typing = w.typing;
          grows = w.grows;
          well = subst (λ x. IsWell around.bases around.classes w.typing x.heap) (sym r.after) w.well;
          same_frame = ap (λ x. x.frame) r.after;
          same_globals = ap (λ x. x.globals) r.after;
          same_classes = ap (λ x. x.classes) r.after;
          ends = subst (λ x. EndsWell (λ v. HasType around.bases w.typing t v) x) (sym r.is)
              (outcome_ends around.bases w.typing t (action_result r.free a s.heap).outcome w.has);
        })
    go k s s' events o knows st (inr (inl e)) = inr (still k s s' o Other e.same e.is tt st)
    go k s s' events o knows st (inr (inr e)) = inr (still k s s' o Cut e.same e.is tt st)
