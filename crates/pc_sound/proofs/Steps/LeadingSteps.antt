-- Steps that lead where they should, one after another; steps of expressions among them.
use Rattle.std.proofs.Common.{◌≡◌, ℕ, List, [], refl, sym, ap, ◌∙◌, subst, inl, inr}
use Rattle.std.specs.Prelude.{◌⊎◌}
use Rattle.pc_source.specs.declared.place.Place.{Place}
use Rattle.pc_flow.specs.Environment.{Env}
use Rattle.pc_value.specs.Value.{Value, Stop, Out, Gives, Stops}
use Rattle.pc_value.specs.Actions.{Action, Outcome, Free}
use Rattle.pc_value.specs.Outcomes.{action_result}
use Rattle.pc_machine.specs.State.{State, Frame}
use Rattle.pc_machine.specs.Names.{with_local}
use Rattle.pc_machine.specs.Free.{Step, ◌>>=◌, comes, may_end, may_stop, look, Changes, act}
use Rattle.pc_machine.specs.Evaluation.{binds_local}
use Rattle.pc_sound.specs.Values.{HeapTyping, Extends, IsWell}
use Rattle.pc_sound.specs.Ends.{EndsWell}
use Rattle.pc_sound.proofs.Steps.Judgment.{HasListed, Around, IsSafe, Goes, Leads, IsWellTypedAnd}
use Rattle.pc_sound.proofs.Values.ValuesFlow.{extends_refl, extends_through}
use Rattle.pc_sound.proofs.Steps.SafeSteps.{listed_left, listed_right, stands_after, stopped_as}

-- an end is well where less is promised of values
pub ends_as : {A : Type 0} (P Q : A → Type 0) (out : Out A) → ((a : A) → P a → Q a) → EndsWell P out → EndsWell Q out
ends_as P Q (Gives a) f h = f a h
ends_as P Q (Stops stop) f h = stopped_as P Q stop h

-- the facts known of states, and of a state and a value
abbrev pub Known : Type 1
Known = HeapTyping → State → Type 0

abbrev pub Promised : Type 0 → Type 1
Promised A = HeapTyping → A → State → Type 0

module _ (around : Around) where
  -- a run that went on went as its two parts went
  goes_on : {A B : Type 0} {mid : Promised A} {after : Promised B} (k : HeapTyping) (s middle s' : State) (a : A)
      (out : Out B) → (first : Goes around mid k s (Gives a) middle) → Goes around after first.typing middle out s'
      → Goes around after k s out s'
  goes_on k s middle s' a out first second = record {
    typing = second.typing;
    grows = extends_through first.grows second.grows;
    well = second.well;
    same_globals = second.same_globals ∙ first.same_globals;
    same_classes = second.same_classes ∙ first.same_classes;
    ends = second.ends;
  }

  goes_off : {A B : Type 0} {mid : Promised A} {after : Promised B} (k : HeapTyping) (s s' : State) (stop : Stop)
      (out : Out B) → out ≡ Stops stop → Goes around mid k s (Stops stop) s' → Goes around after k s out s'
  goes_off {A} {B} {mid} {after} k s s' stop out e first = record {
    typing = first.typing;
    grows = first.grows;
    well = first.well;
    same_globals = first.same_globals;
    same_classes = first.same_classes;
    ends = subst (EndsWell (λ b. after first.typing b s')) (sym e)
        (stopped_as (λ a. mid first.typing a s') (λ b. after first.typing b s') stop first.ends);
  }

  -- one step and then another
  pub leads_bind : {A B : Type 0} (before : Known) (m : Step A) (f : A → Step B) (mid : Promised A) (after : Promised B)
      → Leads around before m mid → ((a : A) → Leads around (λ k s. mid k a s) (f a) after)
      → Leads around before (m >>= f) after
  leads_bind {A} {B} before m f mid after first next = record { run = go }
    where
      go : (k : HeapTyping) (s s' : State) (events : List Place) (out : Out B)
          → IsWell around.bases around.classes k s.heap → before k s → (m >>= f) s events out s'
          → HasListed around.listed events ⊎ Goes around after k s out s'
      go k s s' events out well b (inl w) = elim (first.run k s w.middle w.early (Gives w.value) well b w.before) [
        | inl e ↦ inl (listed_left around [] w.early w.late events w.both e)
        | inr g ↦ elim ((next w.value).run g.typing w.middle s' w.late out g.well g.ends w.after) [
          | inl e ↦ inl (listed_right around [] w.early w.late events w.both e)
          | inr h ↦ inr (goes_on k s w.middle s' w.value out g h)
        ]
      ]
      go k s s' events out well b (inr w) = elim (first.run k s s' events (Stops w.stop) well b w.before) [
        | inl e ↦ inl e
        | inr g ↦ inr (goes_off k s s' w.stop out w.is g)
      ]

  -- the state as it was
  goes_still : {A : Type 0} (after : Promised A) (k : HeapTyping) (s s' : State) (out : Out A)
      → IsWell around.bases around.classes k s.heap → s' ≡ s → EndsWell (λ a. after k a s) out
      → Goes around after k s out s'
  goes_still after k s s' out well e h = record {
    typing = k;
    grows = extends_refl k;
    well = subst (λ x. IsWell around.bases around.classes k x.heap) (sym e) well;
    same_globals = ap (λ x. x.globals) e;
    same_classes = ap (λ x. x.classes) e;
    ends = subst (λ x. EndsWell (λ a. after k a x) out) (sym e) h;
  }

  -- it comes to this at once
  pub leads_comes : {A : Type 0} (before : Known) (out : Out A) (after : Promised A)
      → ((k : HeapTyping) (s : State) → before k s → EndsWell (λ a. after k a s) out)
      → Leads around before (comes out) after
  leads_comes before out after h = record {
    run = λ k s s' events o well b r.
        inr (goes_still after k s s' o well r.same (subst (EndsWell (λ a. after k a s)) (sym r.is) (h k s b)));
  }

  goes_ended : {A : Type 0} (after : Promised A) (k : HeapTyping) (s s' : State) (events : List Place) (out : Out A)
      → IsWell around.bases around.classes k s.heap → may_end s events out s' → Goes around after k s out s'
  goes_ended after k s s' events out well (inl r) = goes_still after k s s' out well r.same
      (subst (EndsWell (λ a. after k a s)) (sym r.is) tt)
  goes_ended after k s s' events out well (inr r) = goes_still after k s s' out well r.same
      (subst (EndsWell (λ a. after k a s)) (sym r.is) tt)

  -- looking at the state leads to the facts that its answer has
  pub leads_looks : {A : Type 0} (before : Known) (f : State → Out A) (after : Promised A)
      → ((k : HeapTyping) (s : State) → before k s → EndsWell (λ a. after k a s) (f s))
      → Leads around before (look f) after
  leads_looks before f after h = record {
    run = λ k s s' events o well b r. inr (elim r [
      | inl l ↦ goes_still after k s s' o well l.same (subst (EndsWell (λ a. after k a s)) (sym l.is) (h k s b))
      | inr e ↦ goes_ended after k s s' events o well e
    ]);
  }

  -- a charge
  pub leads_charge : (before : Known) → Leads around before may_stop (λ k u s. before k s)
  leads_charge before = record {
    run = λ k s s' events o well b r.
        inr (elim r [
          | inl g ↦ goes_still (λ k u s. before k s) k s s' o well g.same
              (subst (EndsWell (λ a. before k s)) (sym g.is) b)
          | inr e ↦ goes_ended (λ k u s. before k s) k s s' events o well
              e
        ]);
  }

  -- a local is bound
  pub leads_binds : (before : Known) (word : List ℕ) (v : Value) (after : Promised (Unit {0}))
      → ((k : HeapTyping) (s : State) → before k s → after k tt (record s { frame = with_local word v s.frame }))
      → Leads around before (Changes (binds_local word v)) after
  leads_binds before word v after h = record {
    run = λ k s s' events o well b r. inr (record {
      typing = k;
      grows = extends_refl k;
      well = subst (λ x. IsWell around.bases around.classes k x.heap) (sym r.after) well;
      same_globals = ap (λ x. x.globals) r.after;
      same_classes = ap (λ x. x.classes) r.after;
      ends = subst (EndsWell (λ a. after k a s')) (sym r.is) (subst (λ x. after k tt x) (sym r.after) (h k s b));
    });
  }

  -- an action that leaves the heap as it is
  pub leads_act : {A : Type 0} (before : Known) (want : Outcome → Out A) (a : Action) (after : Promised A)
      → ((free : Free) (k : HeapTyping) (s : State) → IsWell around.bases around.classes k s.heap → before k s
      → ((action_result free a s.heap).heap ≡ s.heap) × EndsWell (λ x. after k x s)
      (want (action_result free a s.heap).outcome)) → Leads around before (act want a) after
  leads_act {A} before want a after h = record { run = go }
    where
      go : (k : HeapTyping) (s s' : State) (events : List Place) (o : Out A)
          → IsWell around.bases around.classes k s.heap → before k s → act want a s events o s'
          → HasListed around.listed events ⊎ Goes around after k s o s'
      go k s s' events o well b (inl r) =
          let g = h r.free k s well b in
          inr (goes_still after k s s' o well (r.after ∙ ap (λ x. record s { heap = x }) g.0)
          (subst (EndsWell (λ x. after k x s)) (sym r.is) g.1))
      go k s s' events o well b (inr e) = inr (goes_ended after k s s' events o well e)

  -- where more is known, and less is promised
  pub leads_from : {A : Type 0} (before before' : Known) (m : Step A) (after : Promised A)
      → ((k : HeapTyping) (s : State) → before k s → before' k s) → Leads around before' m after
      → Leads around before m after
  leads_from before before' m after less h = record {
    run = λ k s s' events o well b r. h.run k s s' events o well
        (less k s b) r;
  }

  pub leads_to : {A : Type 0} (before : Known) (m : Step A) (after after' : Promised A)
      → ((k : HeapTyping) (a : A) (s : State) → after k a s → after' k a s) → Leads around before m after
      → Leads around before m after'
  leads_to before m after after' more h = record {
    run = λ k s s' events o well b r. elim (h.run k s s' events o well b r) [
      | inl e ↦ inl e
      | inr g ↦ inr (record {
        typing = g.typing;
        grows = g.grows;
        well = g.well;
        same_globals = g.same_globals;
        same_classes = g.same_classes;
        ends = ends_as (λ a. after g.typing a s') (λ a. after' g.typing a s') o
            (λ a. more g.typing a s') g.ends;
      })
    ];
  }

  -- from each state as it is known by itself
  pub leads_each : {A : Type 0} (before : Known) (m : Step A) (after : Promised A)
      → ((k : HeapTyping) (s : State) → before k s → Leads around (λ j t. (j ≡ k) × (t ≡ s)) m after)
      → Leads around before m after
  leads_each before m after h = record {
    run = λ k s s' events o well b r. (h k s b).run k s s' events o well
        (refl, refl) r;
  }

  -- a step of an expression, whatever else is known of the frame
  pub leads_safe : {A : Type 0} (env : Env) (known : HeapTyping → Type 0) (m : Step A) (P : HeapTyping → A → Type 0)
      (more : HeapTyping → Frame → Type 0) → ((k k' : HeapTyping) (frame : Frame) → Extends k k' → more k frame
      → more k' frame) → IsSafe around env known m P → Leads around (λ k s. IsWellTypedAnd around env more k s
      × known k) m (λ k a s. IsWellTypedAnd around env more k s × P k a)
  leads_safe {A} env known m P more grow h = record { run = go }
    where
      go : (k : HeapTyping) (s s' : State) (events : List Place) (out : Out A)
          → IsWell around.bases around.classes k s.heap → IsWellTypedAnd around env more k s × known k
          → m s events out s' → HasListed around.listed events ⊎ Goes around
          (λ k a s. IsWellTypedAnd around env more k s × P k a) k s out s'
      go k s s' events out well b r = elim (h.run k s s' events out b.1 b.0.stands r) [
        | inl e ↦ inl e
        | inr kept ↦ inr (record {
          typing = kept.typing;
          grows = kept.grows;
          well = kept.well;
          same_globals = kept.same_globals;
          same_classes = kept.same_classes;
          ends = ends_as (P kept.typing) (λ a. IsWellTypedAnd around env more kept.typing s' × P kept.typing a) out
              (λ a p. (
                record {
                  stands = stands_after around env P k s s' out b.0.stands kept;
                  known =
                      subst (more kept.typing) (sym kept.same_frame) (grow k kept.typing s.frame kept.grows b.0.known);
                },
                p,
              ))
              kept.ends;
        })
      ]
