-- Steps of a module: they bind names and make classes, one after another.
use Rattle.std.proofs.Common.{◌≡◌, List, ◌++◌, sym, subst, inl, inr, Contains}
use Rattle.std.specs.Prelude.{◌⊎◌}
use Rattle.std.proofs.lemmas.List.Elements.{Contains-append_left, Contains-append_right}
use Rattle.pc_source.specs.declared.place.Place.{Place}
use Rattle.pc_value.specs.Value.{Out, Gives, Stops}
use Rattle.pc_machine.specs.State.{State}
use Rattle.pc_machine.specs.Free.{Step, ◌>>=◌, comes, may_stop, look, Changes}
use Rattle.pc_sound.specs.Values.{HeapTyping}
use Rattle.pc_sound.specs.Ends.{EndsWell}
use Rattle.pc_sound.proofs.Steps.Judgment.{HasListed}
use Rattle.pc_sound.proofs.Steps.LeadingSteps.{Known, Promised, ends_as}
use Rattle.pc_sound.proofs.Steps.SafeSteps.{stopped_as}

-- a run ended well: in a value, and a state as promised, or in another exception, or cut off
pub record Arrives {A : Type 0} (after : Promised A) (out : Out A) (s : State) : Type 0 where
  pub typing : HeapTyping
  pub ends : EndsWell (λ a. after typing a s) out

-- from a state as it is known each run of a step evaluates a listed place, or ends well
pub record Proceeds (listed : Place → Type 0) (before : Known) {A : Type 0} (m : Step A) (after : Promised A) : Type
    0 where
  pub run : (k : HeapTyping) (s s' : State) (events : List Place) (out : Out A) → before k s → m s events out s'
      → HasListed listed events ⊎ Arrives after out s'

module _ (listed : Place → Type 0) where
  earlier : (es fs gs : List Place) → gs ≡ es ++ fs → HasListed listed es → HasListed listed gs
  earlier es fs gs e h = record {
    place = h.place;
    is = h.is;
    event = subst (λ l. Contains l h.place) (sym e)
        (Contains-append_left es fs h.place h.event);
  }

  later : (es fs gs : List Place) → gs ≡ es ++ fs → HasListed listed fs → HasListed listed gs
  later es fs gs e h = record {
    place = h.place;
    is = h.is;
    event = subst (λ l. Contains l h.place) (sym e)
        (Contains-append_right es fs h.place h.event);
  }

  -- one step and then another
  pub proceeds_bind : {A B : Type 0} (before : Known) (m : Step A) (f : A → Step B) (mid : Promised A)
      (after : Promised B) → Proceeds listed before m mid → ((a : A) → Proceeds listed (λ k s. mid k a s) (f a) after)
      → Proceeds listed before (m >>= f) after
  proceeds_bind {A} {B} before m f mid after first next = record { run = go }
    where
      go : (k : HeapTyping) (s s' : State) (events : List Place) (out : Out B) → before k s → (m >>= f) s events out s'
          → HasListed listed events ⊎ Arrives after out s'
      go k s s' events out b (inl w) = elim (first.run k s w.middle w.early (Gives w.value) b w.before) [
        | inl e ↦ inl (earlier w.early w.late events w.both e)
        | inr g ↦ elim ((next w.value).run g.typing w.middle s' w.late out g.ends w.after) [
          | inl e ↦ inl (later w.early w.late events w.both e)
          | inr h ↦ inr h
        ]
      ]
      go k s s' events out b (inr w) = elim (first.run k s s' events (Stops w.stop) b w.before) [
        | inl e ↦ inl e
        | inr g ↦ inr (record {
          typing = g.typing;
          ends = subst (EndsWell (λ b. after g.typing b s')) (sym w.is)
              (stopped_as (λ a. mid g.typing a s') (λ b. after g.typing b s') w.stop g.ends);
        })
      ]

  pub proceeds_comes : {A : Type 0} (before : Known) (out : Out A) (after : Promised A)
      → ((k : HeapTyping) (s : State) → before k s → EndsWell (λ a. after k a s) out)
      → Proceeds listed before (comes out) after
  proceeds_comes before out after h = record {
    run = λ k s s' events o b r.
        inr (record {
          typing = k;
          ends = subst (EndsWell (λ a. after k a s')) (sym r.is)
              (subst (λ x. EndsWell (λ a. after k a x) out) (sym r.same) (h k s b));
        });
  }

  pub proceeds_looks : {A : Type 0} (before : Known) (f : State → Out A) (after : Promised A)
      → ((k : HeapTyping) (s : State) → before k s → EndsWell (λ a. after k a s) (f s))
      → Proceeds listed before (look f) after
  proceeds_looks before f after h = record {
    run = λ k s s' events o b r. inr (record {
      typing = k;
      ends = elim r [
        | inl l ↦ subst (EndsWell (λ a. after k a s')) (sym l.is)
            (subst (λ x. EndsWell (λ a. after k a x) (f s)) (sym l.same) (h k s b))
        | inr e ↦ elim e [
          | inl x ↦ subst (EndsWell (λ a. after k a s')) (sym x.is) tt
          | inr x ↦
              subst (EndsWell (λ a. after k a s')) (sym x.is) tt
        ]
      ];
    });
  }

  pub proceeds_changes : (before : Known) (f : State → State) (after : Promised (Unit {0}))
      → ((k : HeapTyping) (s : State) → before k s → after k tt (f s)) → Proceeds listed before (Changes f) after
  proceeds_changes before f after h = record {
    run = λ k s s' events o b r.
        inr (record {
          typing = k;
          ends = subst (EndsWell (λ a. after k a s')) (sym r.is)
              (subst (λ x. after k tt x) (sym r.after) (h k s b));
        });
  }

  pub proceeds_charge : (before : Known) → Proceeds listed before may_stop (λ k u s. before k s)
  proceeds_charge before = record {
    run = λ k s s' events o b r. inr (record {
      typing = k;
      ends = elim r [
        | inl g ↦ subst (EndsWell (λ a. before k s')) (sym g.is) (subst (λ x. before k x) (sym g.same) b)
        | inr e ↦ elim e [
          | inl x ↦ subst (EndsWell (λ a. before k s')) (sym x.is) tt
          | inr x ↦
              subst (EndsWell (λ a. before k s')) (sym x.is) tt
        ]
      ];
    });
  }

  pub proceeds_as : {A : Type 0} (before before' : Known) (m : Step A) (after after' : Promised A)
      → ((k : HeapTyping) (s : State) → before k s → before' k s)
      → ((k : HeapTyping) (a : A) (s : State) → after k a s → after' k a s) → Proceeds listed before' m after
      → Proceeds listed before m after'
  proceeds_as before before' m after after' less more h = record {
    run = λ k s s' events o b r. elim (h.run k s s' events o (less k s b) r) [
      | inl e ↦ inl e
      | inr g ↦ inr (record {
        typing = g.typing;
        ends = ends_as (λ a. after g.typing a s') (λ a. after' g.typing a s') o
            (λ a. more g.typing a s') g.ends;
      })
    ];
  }
