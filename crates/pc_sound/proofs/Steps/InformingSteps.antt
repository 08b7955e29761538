-- Steps of expressions, one after another, where later steps use the knowledge of the state from earlier ones.
use Rattle.std.proofs.Common.{◌≡◌, List, [], ◌∷◌, refl, sym, ap, ◌∙◌, subst, inl, inr, arith, Contains}
use Rattle.std.specs.Prelude.{◌⊎◌}
use Rattle.pc_source.specs.declared.place.Place.{Place}
use Rattle.pc_tree.specs.declared.code.Code.{Code}
use Rattle.pc_flow.specs.Environment.{Env}
use Rattle.pc_value.specs.Value.{Out, Gives, Stops}
use Rattle.pc_value.specs.Actions.{Action, Outcome, Free}
use Rattle.pc_value.specs.Outcomes.{action_result}
use Rattle.pc_machine.specs.State.{State, Frame}
use Rattle.pc_machine.specs.Free.{Step, ◌>>=◌, comes, may_end, may_stop, Emits, look, act}
use Rattle.pc_sound.specs.Values.{HeapTyping, IsWell}
use Rattle.pc_sound.specs.Ends.{EndsWell}
use Rattle.pc_sound.proofs.Steps.Judgment.{HasListed, AreListedCodes, Around, IsWellTyped, KeepsState, IsSafe}
use Rattle.pc_sound.proofs.Steps.Judgment.{Leads}
use Rattle.pc_sound.proofs.Values.ValuesFlow.{extends_refl, extends_through}
use Rattle.pc_sound.proofs.Steps.SafeSteps.{listed_left, listed_right, stands_after, goes_well, stopped_as}
use Rattle.pc_sound.proofs.Steps.LeadingSteps.{Known, Promised, ends_as}

-- from a state as it is known each run of a step evaluates a listed place, or keeps all, and tells this of its value
-- and of the state after it
pub record Shows (around : Around) (before : Known) {A : Type 0} (m : Step A) (after : Promised A) : Type 0 where
  pub run : (k : HeapTyping) (s s' : State) (events : List Place) (out : Out A)
      → IsWell around.bases around.classes k s.heap → before k s → m s events out s' → HasListed around.listed events
      ⊎ KeepsState around (λ k a. after k a s') k s out s'

module _ (around : Around) where
  -- a kept state is kept for another promise on the end, too
  pub kept_as : {A B : Type 0} (P : HeapTyping → A → Type 0) (Q : HeapTyping → B → Type 0) (k : HeapTyping)
      (s s' : State) (out : Out A) (out' : Out B) → (h : KeepsState around P k s out s') → EndsWell (Q h.typing) out'
      → KeepsState around Q k s out' s'
  kept_as P Q k s s' out out' h e = record {
    typing = h.typing;
    grows = h.grows;
    well = h.well;
    same_frame =
        h.same_frame;
    same_globals = h.same_globals;
    same_classes = h.same_classes;
    ends = e;
  }

  -- the state as it was
  kept_still : {A : Type 0} (P : HeapTyping → A → Type 0) (k : HeapTyping) (s s' : State) (out : Out A)
      → IsWell around.bases around.classes k s.heap → s' ≡ s → EndsWell (P k) out → KeepsState around P k s out s'
  kept_still P k s s' out well e h = record {
    typing = k;
    grows = extends_refl k;
    well = subst (λ x. IsWell around.bases around.classes k x.heap) (sym e) well;
    same_frame = ap (λ x. x.frame) e;
    same_globals = ap (λ x. x.globals) e;
    same_classes = ap (λ x. x.classes) e;
    ends = h;
  }

  -- one step and then another
  pub shows_bind : {A B : Type 0} (before : Known) (m : Step A) (f : A → Step B) (mid : Promised A) (after : Promised B)
      → Shows around before m mid → ((a : A) → Shows around (λ k s. mid k a s) (f a) after)
      → Shows around before (m >>= f) after
  shows_bind {A} {B} before m f mid after first next = record { run = go }
    where
      go : (k : HeapTyping) (s s' : State) (events : List Place) (out : Out B)
          → IsWell around.bases around.classes k s.heap → before k s → (m >>= f) s events out s'
          → HasListed around.listed events ⊎ KeepsState around (λ k b. after k b s') k s out s'
      go k s s' events out well b (inl w) = elim (first.run k s w.middle w.early (Gives w.value) well b w.before) [
        | inl e ↦ inl (listed_left around [] w.early w.late events w.both e)
        | inr g ↦ elim ((next w.value).run g.typing w.middle s' w.late out g.well g.ends w.after) [
          | inl e ↦ inl (listed_right around [] w.early w.late events w.both e)
          | inr h ↦ inr (record {
            typing = h.typing;
            grows = extends_through g.grows h.grows;
            well = h.well;
            same_frame = h.same_frame ∙ g.same_frame;
            same_globals = h.same_globals ∙ g.same_globals;
            same_classes = h.same_classes ∙ g.same_classes;
            ends = h.ends;
          })
        ]
      ]
      go k s s' events out well b (inr w) = elim (first.run k s s' events (Stops w.stop) well b w.before) [
        | inl e ↦ inl e
        | inr g ↦ inr (kept_as (λ k a. mid k a s') (λ k b. after k b s') k s s' (Stops w.stop) out g
            (subst (EndsWell (λ b. after g.typing b s')) (sym w.is)
            (stopped_as (λ a. mid g.typing a s') (λ b. after g.typing b s') w.stop g.ends)))
      ]

  -- it comes to this at once
  pub shows_comes : {A : Type 0} (before : Known) (out : Out A) (after : Promised A)
      → ((k : HeapTyping) (s : State) → before k s → EndsWell (λ a. after k a s) out)
      → Shows around before (comes out) after
  shows_comes before out after h = record {
    run = λ k s s' events o well b r.
        inr (kept_still (λ k a. after k a s') k s s' o well r.same
        (subst (EndsWell (λ a. after k a s')) (sym r.is) (subst (λ x. EndsWell (λ a. after k a x) out) (sym r.same)
        (h k s b))));
  }

  kept_ended : {A : Type 0} (P : HeapTyping → A → Type 0) (k : HeapTyping) (s s' : State) (events : List Place)
      (out : Out A) → IsWell around.bases around.classes k s.heap → may_end s events out s'
      → KeepsState around P k s out s'
  kept_ended P k s s' events out well (inl r) = kept_still P k s s' out well r.same
      (subst (EndsWell (P k)) (sym r.is) tt)
  kept_ended P k s s' events out well (inr r) = kept_still P k s s' out well r.same
      (subst (EndsWell (P k)) (sym r.is) tt)

  -- looking at the state shows the facts that its answer has
  pub shows_looks : {A : Type 0} (before : Known) (f : State → Out A) (after : Promised A)
      → ((k : HeapTyping) (s : State) → before k s → EndsWell (λ a. after k a s) (f s))
      → Shows around before (look f) after
  shows_looks before f after h = record {
    run = λ k s s' events o well b r. inr (elim r [
      | inl l ↦ kept_still (λ k a. after k a s') k s s' o well l.same
          (subst (EndsWell (λ a. after k a s')) (sym l.is) (subst (λ x. EndsWell (λ a. after k a x) (f s)) (sym l.same)
          (h k s b)))
      | inr e ↦ kept_ended (λ k a. after k a s') k s s' events o well e
    ]);
  }

  -- a charge
  pub shows_charge : (before : Known) → Shows around before may_stop (λ k u s. before k s)
  shows_charge before = record {
    run = λ k s s' events o well b r. inr (elim r [
      | inl g ↦ kept_still (λ k u. before k s') k s s' o well g.same
          (subst (EndsWell (λ a. before k s')) (sym g.is) (subst (λ x. before k x) (sym g.same) b))
      | inr e ↦ kept_ended (λ k u. before k s') k s s' events o well e
    ]);
  }

  -- where a place is evaluated, a listed place was, or no code stands there
  pub shows_emits : (before : Known) (p : Place) (codes : List Code) → AreListedCodes around.listed p codes
      → Shows around before (Emits p) (λ k u s. before k s × (codes ≡ []))
  shows_emits before p [] allowed = record {
    run = λ k s s' events o well b r.
        inr (kept_still (λ k u. before k s' × ([] ≡ [])) k s s' o well r.same
        (goes_well (λ u. before k s' × ([] ≡ [])) o r.goes_on (subst (λ x. before k x) (sym r.same) b, refl)));
  }
  shows_emits before p (c ∷ cs) allowed = record {
    run = λ k s s' events o well b r.
        inl (record {
          place = p;
          is = allowed;
          event = subst (λ l. Contains l p) (sym r.event) (0, omega arith, refl);
        });
  }

  -- an action that leaves the heap as it is
  pub shows_act : {A : Type 0} (before : Known) (want : Outcome → Out A) (a : Action) (after : Promised A)
      → ((free : Free) (k : HeapTyping) (s : State) → before k s → ((action_result free a s.heap).heap ≡ s.heap)
      × EndsWell (λ x. after k x s) (want (action_result free a s.heap).outcome))
      → Shows around before (act want a) after
  shows_act {A} before want a after h = record { run = go }
    where
      go : (k : HeapTyping) (s s' : State) (events : List Place) (o : Out A)
          → IsWell around.bases around.classes k s.heap → before k s → act want a s events o s'
          → HasListed around.listed events ⊎ KeepsState around (λ k x. after k x s') k s o s'
      go k s s' events o well b (inl r) =
          let g = h r.free k s b in
          let same : s' ≡ s = r.after ∙ ap (λ x. record s { heap = x }) g.0 in
          inr (kept_still (λ k x. after k x s') k s s' o well same
          (subst (EndsWell (λ x. after k x s')) (sym r.is)
          (subst (λ y. EndsWell (λ x. after k x y) (want (action_result r.free a s.heap).outcome)) (sym same) g.1)))
      go k s s' events o well b (inr e) = inr (kept_ended (λ k x. after k x s') k s s' events o well e)

  -- where more is known, and less is told
  pub shows_as : {A : Type 0} (before before' : Known) (m : Step A) (after after' : Promised A)
      → ((k : HeapTyping) (s : State) → before k s → before' k s)
      → ((k : HeapTyping) (a : A) (s : State) → after k a s → after' k a s) → Shows around before' m after
      → Shows around before m after'
  shows_as before before' m after after' less more h = record {
    run = λ k s s' events o well b r. elim (h.run k s s' events o well (less k s b) r) [
      | inl e ↦ inl e
      | inr g ↦ inr (kept_as (λ k a. after k a s') (λ k a. after' k a s') k s s' o o g
          (ends_as (λ a. after g.typing a s') (λ a. after' g.typing a s') o (λ a. more g.typing a s') g.ends))
    ];
  }

  -- a state that stood stands after it, too
  pub shows_standing : {A : Type 0} (env : Env) (before : Known) (m : Step A) (after : Promised A)
      → Shows around before m after → Shows around (λ k s. IsWellTyped around env k s × before k s) m
      (λ k a s. IsWellTyped around env k s × after k a s)
  shows_standing env before m after h = record {
    run = λ k s s' events o well b r. elim (h.run k s s' events o well b.1 r) [
      | inl e ↦ inl e
      | inr g ↦ inr (kept_as (λ k a. after k a s') (λ k a. IsWellTyped around env k s' × after k a s') k s s' o o g
          (ends_as (λ a. after g.typing a s') (λ a. IsWellTyped around env g.typing s' × after g.typing a s') o
          (λ a x. (stands_after around env (λ k a. after k a s') k s s' o b.0 g, x)) g.ends))
    ];
  }

  -- it is safe
  pub shows_safe : {A : Type 0} (env : Env) (known : HeapTyping → Type 0) (m : Step A) (P : HeapTyping → A → Type 0)
      → Shows around (λ k s. IsWellTyped around env k s × known k) m (λ k a s. P k a) → IsSafe around env known m P
  shows_safe env known m P h = record {
    run = λ k s s' events o knows st r. h.run k s s' events o st.well (st, knows) r;
  }

  -- a safe step that also leads somewhere in its frame
  pub shows_of : {A : Type 0} (env : Env) (m : Step A) (P : HeapTyping → A → Type 0) (after : Promised A)
      → IsSafe around env (λ k. Unit {0}) m P → ((frame : Frame)
      → Leads around (λ k s. IsWellTyped around env k s × (s.frame ≡ frame)) m
      (λ k a s. (IsWellTyped around env k s × (s.frame ≡ frame)) × after k a s))
      → Shows around (λ k s. IsWellTyped around env k s) m (λ k a s. IsWellTyped around env k s × after k a s)
  shows_of {A} env m P after safe leads = record { run = go }
    where
      go : (k : HeapTyping) (s s' : State) (events : List Place) (out : Out A)
          → IsWell around.bases around.classes k s.heap → IsWellTyped around env k s → m s events out s'
          → HasListed around.listed events ⊎ KeepsState around (λ k a. IsWellTyped around env k s' × after k a s') k s
          out s'
      go k s s' events (Gives a) well st r = elim ((leads s.frame).run k s s' events (Gives a) well (st, refl) r) [
        | inl e ↦ inl e
        | inr g ↦ inr (record {
          typing = g.typing;
          grows = g.grows;
          well = g.well;
          same_frame = g.ends.0.1;
          same_globals = g.same_globals;
          same_classes = g.same_classes;
          ends = (g.ends.0.0, g.ends.1);
        })
      ]
      go k s s' events (Stops stop) well st r = elim (safe.run k s s' events (Stops stop) tt st r) [
        | inl e ↦ inl e
        | inr g ↦ inr (kept_as P (λ k a. IsWellTyped around env k s' × after k a s') k s s' (Stops stop) (Stops stop) g
            (stopped_as (P g.typing) (λ a. IsWellTyped around env g.typing s' × after g.typing a s') stop g.ends))
      ]

  -- it leads there in its frame
  pub shows_leads : {A : Type 0} (env : Env) (m : Step A) (after : Promised A)
      → Shows around (λ k s. IsWellTyped around env k s) m (λ k a s. IsWellTyped around env k s × after k a s)
      → (frame : Frame) → Leads around (λ k s. IsWellTyped around env k s × (s.frame ≡ frame)) m
      (λ k a s. (IsWellTyped around env k s × (s.frame ≡ frame)) × after k a s)
  shows_leads env m after h frame = record {
    run = λ k s s' events o well b r. elim (h.run k s s' events o well b.0 r) [
      | inl e ↦ inl e
      | inr g ↦ inr (record {
        typing = g.typing;
        grows = g.grows;
        well = g.well;
        same_globals = g.same_globals;
        same_classes = g.same_classes;
        ends = ends_as (λ a. IsWellTyped around env g.typing s' × after g.typing a s')
            (λ a. (IsWellTyped around env g.typing s' × (s'.frame ≡ frame)) × after g.typing a s') o
            (λ a x. ((x.0, g.same_frame ∙ b.1), x.1)) g.ends;
      })
    ];
  }
