-- Steps that are safe, one after another.
use Rattle.std.proofs.Common.{◌≡◌, ℕ, List, [], ◌∷◌, ◌++◌, refl, sym, ap, ◌∙◌, subst, inl, inr, arith, Contains}
use Rattle.std.specs.Prelude.{◌⊎◌}
use Rattle.std.proofs.lemmas.List.Elements.{Contains-append_left, Contains-append_right}
use Rattle.pc_source.specs.declared.place.Place.{Place}
use Rattle.pc_tree.specs.declared.code.Code.{Code}
use Rattle.pc_types.specs.Tree.{Tree}
use Rattle.pc_types.specs.Below.{Bases}
use Rattle.pc_flow.specs.Environment.{Env, declared_type}
use Rattle.pc_value.specs.Value.{Stop, Out, Gives, Stops, Raised, Other, Outside, Cut}
use Rattle.pc_value.specs.Actions.{Action, Outcome, Free}
use Rattle.pc_value.specs.Outcomes.{action_result}
use Rattle.pc_machine.specs.State.{State, Frame}
use Rattle.pc_machine.specs.Free.{Step, ◌>>=◌, comes, may_end, may_stop, Emits, KeepsGoing, look, act}
use Rattle.pc_sound.specs.Values.{HeapTyping, Extends, IsWell}
use Rattle.pc_sound.specs.Ends.{EndsWell}
use Rattle.pc_sound.proofs.Steps.BoundLocals.{HasLocals}
use Rattle.pc_sound.proofs.Steps.Judgment.{HasListed, AreListedCodes, Around, HasNames, IsWellTyped, kept_with}
use Rattle.pc_sound.proofs.Steps.Judgment.{KeepsState, IsSafe}
use Rattle.pc_sound.proofs.Values.ValuesFlow.{later, extends_refl, extends_through}

-- locals of the same frame under a later heap typing
locals_later : {bases : Bases} {k k' : HeapTyping} {names : List (List ℕ)} {declared : List Tree} {env : Env}
    {frame frame' : Frame} → Extends k k' → frame' ≡ frame → HasLocals bases k names declared env frame
    → HasLocals bases k' names declared env frame'
locals_later {bases} {k} {k'} {names} {declared} {env} {frame} {frame'} x e h =
    subst (λ f. HasLocals bases k' names declared env f) (sym e) (record {
      each = λ word y t named is. let l = h.each word y t named is in
          record {
            value = l.value;
            is = l.is;
            now = later bases x t l.value l.now;
            always =
                later bases x (declared_type declared y) l.value l.always;
          };
    })

-- a fact stays known when the heap typing grows
abbrev pub Stays : (HeapTyping → Type 0) → Type 0
Stays known = (k k' : HeapTyping) → Extends k k' → known k → known k'

-- a run that gives a value does not stop
pub gives_not_stops : {A : Type 0} {a : A} {stop : Stop} → Gives a ≡ Stops stop → ⊥
gives_not_stops e = grind arith

-- a run gives one value only
pub gives_injective : {A : Type 0} {a b : A} → Gives a ≡ Gives b → a ≡ b
gives_injective e = grind arith

-- an end of the run is well whatever was promised of values
pub stopped_as : {A B : Type 0} (P : A → Type 0) (Q : B → Type 0) (stop : Stop) → EndsWell P (Stops stop)
    → EndsWell Q (Stops stop)
stopped_as P Q (Raised e) h = h
stopped_as P Q Outside h = h
stopped_as P Q Other h = h
stopped_as P Q Cut h = h

-- where a step goes on, what holds then is promised of how it ends
pub goes_well : (P : Unit {0} → Type 0) (out : Out (Unit {0})) → KeepsGoing out → P tt → EndsWell P out
goes_well P (Gives u) g h = h
goes_well P (Stops (Raised e)) g h = g
goes_well P (Stops Outside) g h = g
goes_well P (Stops Other) g h = tt
goes_well P (Stops Cut) g h = tt

module _ (around : Around) (env : Env) where
  pub listed_left : (es fs gs : List Place) → gs ≡ es ++ fs → HasListed around.listed es → HasListed around.listed gs
  listed_left es fs gs e h = record {
    place = h.place;
    is = h.is;
    event = subst (λ l. Contains l h.place) (sym e)
        (Contains-append_left es fs h.place h.event);
  }

  pub listed_right : (es fs gs : List Place) → gs ≡ es ++ fs → HasListed around.listed fs → HasListed around.listed gs
  listed_right es fs gs e h = record {
    place = h.place;
    is = h.is;
    event = subst (λ l. Contains l h.place) (sym e)
        (Contains-append_right es fs h.place h.event);
  }

  -- a state after a step that kept all stands
  pub stands_after : {A : Type 0} (P : HeapTyping → A → Type 0) (k : HeapTyping) (s s' : State) (out : Out A)
      → IsWellTyped around env k s → (h : KeepsState around P k s out s') → IsWellTyped around env h.typing s'
  stands_after P k s s' out st h = record {
    well = h.well;
    frame = subst (λ f. HasNames around.names f) (sym h.same_frame) st.frame;
    locals = locals_later h.grows h.same_frame st.locals;
    outside = subst (λ c. around.outside h.typing c s'.globals) (sym h.same_classes)
        (subst (λ g. around.outside h.typing s.classes g) (sym h.same_globals)
        (around.stays k h.typing s.classes s.globals h.grows st.outside));
  }

  -- one step and then another
  pub bind_safe : {A B : Type 0} (known : HeapTyping → Type 0) (m : Step A) (f : A → Step B)
      (P : HeapTyping → A → Type 0) (Q : HeapTyping → B → Type 0) → Stays known → IsSafe around env known m P
      → ((a : A) → IsSafe around env (λ k. known k × P k a) (f a) Q) → IsSafe around env known (m >>= f) Q
  bind_safe {A} {B} known m f P Q stays first next = record { run = go }
    where
      go : (k : HeapTyping) (s s' : State) (events : List Place) (out : Out B) → known k → IsWellTyped around env k s
          → (m >>= f) s events out s' → HasListed around.listed events ⊎ KeepsState around Q k s out s'
      go k s s' events out knows st (inl w) = elim (first.run k s w.middle w.early (Gives w.value) knows st w.before) [
        | inl e ↦ inl (listed_left w.early w.late events w.both e)
        | inr kept ↦ elim ((next w.value).run kept.typing w.middle s' w.late out (
          stays k kept.typing kept.grows knows,
          kept.ends,
        ) (stands_after P k s w.middle (Gives w.value) st kept) w.after) [
          | inl e ↦ inl (listed_right w.early w.late events w.both e)
          | inr kept' ↦ inr (record {
            typing = kept'.typing;
            grows = extends_through kept.grows kept'.grows;
            well = kept'.well;
            same_frame = kept'.same_frame ∙ kept.same_frame;
            same_globals = kept'.same_globals ∙ kept.same_globals;
            same_classes = kept'.same_classes ∙ kept.same_classes;
            ends = kept'.ends;
          })
        ]
      ]
      go k s s' events out knows st (inr w) = elim (first.run k s s' events (Stops w.stop) knows st w.before) [
        | inl e ↦ inl e
        | inr kept ↦
            inr (kept_with kept (subst (EndsWell (Q kept.typing)) (sym w.is)
            (stopped_as (P kept.typing) (Q kept.typing) w.stop kept.ends)))
      ]

  -- the state as it was
  pub still : {A : Type 0} (P : HeapTyping → A → Type 0) (k : HeapTyping) (s s' : State) (out : Out A) → s' ≡ s
      → IsWellTyped around env k s → EndsWell (P k) out → KeepsState around P k s out s'
  still P k s s' out e st h = record {
    typing = k;
    grows = extends_refl k;
    well = subst (λ x. IsWell around.bases around.classes k x.heap) (sym e) st.well;
    same_frame = ap (λ x. x.frame) e;
    same_globals = ap (λ x. x.globals) e;
    same_classes = ap (λ x. x.classes) e;
    ends = h;
  }

  -- it comes to this at once
  pub comes_safe : {A : Type 0} (known : HeapTyping → Type 0) (out : Out A) (P : HeapTyping → A → Type 0)
      → ((k : HeapTyping) → known k → EndsWell (P k) out) → IsSafe around env known (comes out) P
  comes_safe known out P h = record {
    run = λ k s s' events o knows st r.
        inr (still P k s s' o r.same st (subst (EndsWell (P k)) (sym r.is) (h k knows)));
  }

  pub ended : {A : Type 0} (P : HeapTyping → A → Type 0) (k : HeapTyping) (s s' : State) (events : List Place)
      (out : Out A) → IsWellTyped around env k s → may_end s events out s' → KeepsState around P k s out s'
  ended P k s s' events out st (inl r) = still P k s s' out r.same st (subst (EndsWell (P k)) (sym r.is) tt)
  ended P k s s' events out st (inr r) = still P k s s' out r.same st (subst (EndsWell (P k)) (sym r.is) tt)

  -- looking at the state is safe
  pub looks_safe : {A : Type 0} (known : HeapTyping → Type 0) (f : State → Out A) (P : HeapTyping → A → Type 0)
      → ((k : HeapTyping) (s : State) → known k → IsWellTyped around env k s → EndsWell (P k) (f s))
      → IsSafe around env known (look f) P
  looks_safe known f P h = record {
    run = λ k s s' events o knows st r. elim r [
      | inl l ↦ inr (still P k s s' o l.same st (subst (EndsWell (P k)) (sym l.is) (h k s knows st)))
      | inr e ↦ inr (ended P k s s' events o st e)
    ];
  }

  -- a charge
  pub may_stop_safe : (known : HeapTyping → Type 0) → IsSafe around env known may_stop (λ k u. Unit {0})
  may_stop_safe known = record {
    run = λ k s s' events o knows st r.
        inr (elim r [
          | inl g ↦ still (λ k u. Unit {0}) k s s' o g.same st (subst (EndsWell (λ u. Unit {0})) (sym g.is) tt)
          | inr e ↦ ended (λ k u. Unit {0}) k s s' events o st e
        ]);
  }

  here_is : (p : Place) (events : List Place) → events ≡ p ∷ [] → Contains events p
  here_is p events e = subst (λ l. Contains l p) (sym e) (0, omega arith, refl)

  -- where a place is evaluated, a listed place was, or no code stands there
  pub emits_safe : (known : HeapTyping → Type 0) (p : Place) (codes : List Code) → AreListedCodes around.listed p codes
      → IsSafe around env known (Emits p) (λ k u. codes ≡ [])
  emits_safe known p [] allowed = record {
    run = λ k s s' events o knows st r.
        inr (still (λ k u. [] ≡ []) k s s' o r.same st (goes_well (λ u. [] ≡ []) o r.goes_on refl));
  }
  emits_safe known p (c ∷ cs) allowed = record {
    run = λ k s s' events o knows st r.
        inl (record { place = p; is = allowed; event = here_is p events r.event });
  }

  -- a step that is safe where less is known is safe where more is known
  pub weaken : {A : Type 0} (known known' : HeapTyping → Type 0) (m : Step A) (P Q : HeapTyping → A → Type 0)
      → ((k : HeapTyping) → known k → known' k) → ((k : HeapTyping) (a : A) → P k a → Q k a)
      → IsSafe around env known' m P → IsSafe around env known m Q
  weaken {A} known known' m P Q less more h = record {
    run = λ k s s' events o knows st r. elim (h.run k s s' events o (less k knows) st r) [
      | inl e ↦ inl e
      | inr kept ↦ inr (kept_with kept (go kept.typing o kept.ends))
    ];
  }
    where
      go : (k : HeapTyping) (o : Out A) → EndsWell (P k) o → EndsWell (Q k) o
      go k (Gives a) e = more k a e
      go k (Stops (Raised x)) e = e
      go k (Stops Outside) e = e
      go k (Stops Other) e = e
      go k (Stops Cut) e = e

  -- an action that leaves the heap as it is
  pub act_safe : {A : Type 0} (known : HeapTyping → Type 0) (want : Outcome → Out A) (a : Action)
      (P : HeapTyping → A → Type 0) → ((free : Free) (k : HeapTyping) (s : State) → known k → IsWellTyped around env k s
      → ((action_result free a s.heap).heap ≡ s.heap) × EndsWell (P k) (want (action_result free a s.heap).outcome))
      → IsSafe around env known (act want a) P
  act_safe {A} known want a P h = record { run = go }
    where
      go : (k : HeapTyping) (s s' : State) (events : List Place) (o : Out A) → known k → IsWellTyped around env k s
          → act want a s events o s' → HasListed around.listed events ⊎ KeepsState around P k s o s'
      go k s s' events o knows st (inl r) =
          let g = h r.free k s knows st in
          inr (still P k s s' o (r.after ∙ ap (λ x. record s { heap = x }) g.0) st
          (subst (EndsWell (P k)) (sym r.is) g.1))
      go k s s' events o knows st (inr e) = inr (ended P k s s' events o st e)
