-- A plain run is a possible run: each step that the text of the model is built from.
use Rattle.std.proofs.Common.{◌≡◌, ℕ, zero, suc, Bool, true, false, List, [], ◌∷◌, ◌++◌, refl, ap, ◌∙◌, subst, sym, inl}
use Rattle.std.proofs.Common.{inr, append_assoc, true≢false}
use Rattle.std.specs.Prelude.{nat_eq, if◌then◌else◌}
use Rattle.pc_source.specs.declared.place.Place.{Place}
use Rattle.pc_value.specs.Value.{whole, boolean, string, none, tuple_of, location, Heap, Stop, Cut, Out, Gives, Stops}
use Rattle.pc_value.specs.Actions.{Action, number, binary, compare, negative, negation, truth_of, new_list, new_dict}
use Rattle.pc_value.specs.Actions.{new_instance, read_item, store_item, read_attribute, store_attribute, append, pop}
use Rattle.pc_value.specs.Actions.{get, length_of, text_of, iterate, iterate_range, turn, Outcome, gives, iterates}
use Rattle.pc_value.specs.Actions.{finished, stops, Free}
use Rattle.pc_value.specs.Numbers.{fits}
use Rattle.pc_value.specs.Outcomes.{action_result, takes_choice}
use Rattle.pc_value.specs.Plain.{limited_outcome, limited_if, makes_number, free_of}
use Rattle.pc_machine.specs.State.{State, Frame}
use Rattle.pc_machine.specs.Plain.{Progress, After, Came, Ended}
use Rattle.pc_machine.specs.Plain as P
use Rattle.pc_machine.specs.Free as F

-- the relation allows what a plain step came to, at the places that it added
pub record Ran {A : Type 0} (r : F.Step A) (w : Progress) (o : Out A) (w' : Progress) : Type 0 where
  pub new : List Place
  pub events : w'.events ≡ w.events ++ new
  pub runs : r w.state new o w'.state

abbrev pub RanTo : {A : Type 0} → F.Step A → Progress → After A → Type 0
RanTo r w (Came a w') = Ran r w (Gives a) w'
RanTo r w (Ended stop w') = Ran r w (Stops stop) w'

-- the relation allows whatever the function does
pub record Fits {A : Type 0} (f : P.Step A) (r : F.Step A) : Type 0 where
  pub at : (w : Progress) → RanTo r w (f w)

early : {A B : Type 0} (r : F.Step A) (q : A → F.Step B) (stop : Stop) (w w' : Progress) → Ran r w (Stops stop) w'
    → Ran (F.◌>>=◌ r q) w (Stops stop) w'
early r q stop w w' h = record {
  new = h.new;
  events = h.events;
  runs =
      inr (record { stop = stop; before = h.runs; is = refl });
}

joined : {A B : Type 0} (r : F.Step A) (q : A → F.Step B) (a : A) (o : Out B) (w mid w' : Progress)
    → Ran r w (Gives a) mid → Ran (q a) mid o w' → Ran (F.◌>>=◌ r q) w o w'
joined r q a o w mid w' x y = record {
  new = x.new ++ y.new;
  events = y.events ∙ ap (λ es. es ++ y.new) x.events
      ∙ append_assoc w.events x.new y.new;
  runs = inl (record {
    value = a;
    middle = mid.state;
    early = x.new;
    late =
        y.new;
    before = x.runs;
    after = y.runs;
    both = refl;
  });
}

pub bind_fits : {A B : Type 0} (f : P.Step A) (g : A → P.Step B) (r : F.Step A) (q : A → F.Step B) → Fits f r
    → ((a : A) → Fits (g a) (q a)) → Fits (P.◌>>=◌ f g) (F.◌>>=◌ r q)
bind_fits {A} {B} f g r q x y = record { at = λ w. go w (f w) (x.at w) }
  where
    more_of : (w mid : Progress) (a : A) (l : After B) → Ran r w (Gives a) mid → RanTo (q a) mid l
        → RanTo (F.◌>>=◌ r q) w l
    more_of w mid a (Came b w') h k = joined r q a (Gives b) w mid w' h k
    more_of w mid a (Ended stop w') h k = joined r q a (Stops stop) w mid w' h k

    go : (w : Progress) (l : After A) → RanTo r w l → RanTo (F.◌>>=◌ r q) w (P.and_then l g)
    go w (Came a mid) h = more_of w mid a (g a mid) h ((y a).at mid)
    go w (Ended stop w') h = early r q stop w w' h

no_more : (es : List Place) → es ≡ es ++ []
no_more [] = refl
no_more (e ∷ es) = ap (λ fs. e ∷ fs) (no_more es)

quiet : {A : Type 0} (o : Out A) (w : Progress) → Ran (F.comes o) w o w
quiet o w = record { new = []; events = no_more w.events; runs = record { is = refl; quiet = refl; same = refl } }

pub pure_fits : {A : Type 0} (a : A) → Fits (λ w. Came a w) (F.comes (Gives a))
pure_fits a = record { at = λ w. quiet (Gives a) w }

pub stop_fits : {A : Type 0} (stop : Stop) → Fits {A = A} (λ w. Ended stop w) (F.comes (Stops stop))
stop_fits stop = record { at = λ w. quiet (Stops stop) w }

pub charge_fits : Fits P.charge F.may_stop
charge_fits = record { at = λ w. go w.fuel w }
  where
    go : (fuel : ℕ) (w : Progress) → RanTo F.may_stop w (P.charge_from fuel w)
    go zero w = let h = quiet {A = Unit {0}} (Stops Cut) w in record {
      new = h.new;
      events = h.events;
      runs =
          inr (inr h.runs);
    }
    go (suc fuel) w = let h = quiet (Gives tt) w in record { new = h.new; events = h.events; runs = inl h.runs }

pub emit_fits : (place : Place) → Fits (P.emit place) (F.Emits place)
emit_fits place = record {
  at = λ w. record {
    new = place ∷ [];
    events = refl;
    runs =
        record { goes_on = tt; event = refl; same = refl };
  };
}

pub look_fits : {A : Type 0} (f : State → Out A) → Fits (P.look f) (F.look f)
look_fits {A} f = record { at = λ w. go w (f w.state) refl }
  where
    go : (w : Progress) (o : Out A) → o ≡ f w.state → RanTo (F.look f) w (P.comes o w)
    go w (Gives a) e = record {
      new = [];
      events = no_more w.events;
      runs =
          inl (record { is = e; quiet = refl; same = refl });
    }
    go w (Stops stop) e = record {
      new = [];
      events = no_more w.events;
      runs =
          inl (record { is = e; quiet = refl; same = refl });
    }

pub change_fits : (f : State → State) → Fits (P.change f) (F.Changes f)
change_fits f = record {
  at = λ w. record {
    new = [];
    events = no_more w.events;
    runs =
        record { is = refl; quiet = refl; after = refl };
  };
}

-- the outcome of a plain action is the same as the free one, or Cut
pub data Limits (free plainly : Outcome) : Type 0 where
  same_outcome : plainly ≡ free → Limits free plainly
  cut_off : plainly ≡ stops Cut → Limits free plainly

limits : (o : Outcome) → Limits o (limited_outcome o)
limits (gives (whole n)) = go (fits n)
  where
    go : (b : Bool) → Limits (gives (whole n)) (if b then gives (whole n) else stops Cut)
    go true = same_outcome refl
    go false = cut_off refl
limits (gives (boolean b)) = same_outcome refl
limits (gives (string cs)) = same_outcome refl
limits (gives none) = same_outcome refl
limits (gives (tuple_of items)) = same_outcome refl
limits (gives (location l)) = same_outcome refl
limits (iterates over) = same_outcome refl
limits finished = same_outcome refl
limits (stops stop) = same_outcome refl

-- an action that makes a whole number leaves the heap as it was
makers_keep : (free : Free) (a : Action) (heap : Heap) → makes_number a ≡ true → (action_result free a heap).heap ≡ heap
makers_keep free (number n) heap e = refl
makers_keep free (binary operator v w) heap e = refl
makers_keep free (negative v) heap e = refl
makers_keep free (length_of v) heap e = refl
makers_keep free (compare operator v w) heap e = refl
makers_keep free (negation v) heap e = refl
makers_keep free (truth_of v) heap e = refl
makers_keep free (new_list items) heap e = absurd (true≢false (sym e))
makers_keep free (new_dict entries) heap e = absurd (true≢false (sym e))
makers_keep free (new_instance c fields) heap e = absurd (true≢false (sym e))
makers_keep free (read_item o k) heap e = refl
makers_keep free (store_item o k v) heap e = absurd (true≢false (sym e))
makers_keep free (read_attribute o f m) heap e = refl
makers_keep free (store_attribute o f v) heap e = absurd (true≢false (sym e))
makers_keep free (append o v) heap e = absurd (true≢false (sym e))
makers_keep free (pop o) heap e = absurd (true≢false (sym e))
makers_keep free (get o k) heap e = refl
makers_keep free (text_of v) heap e = refl
makers_keep free (iterate v) heap e = refl
makers_keep free (iterate_range v) heap e = refl
makers_keep free (turn over i) heap e = refl

-- a plain action against the free one: the same outcome, or cut off with the heap as it was
pub data Against (free : Free) (a : Action) (heap : Heap) (plainly : Outcome) : Type 0 where
  as_free : plainly ≡ (action_result free a heap).outcome → Against free a heap plainly
  is_cut : plainly ≡ stops Cut → (action_result free a heap).heap ≡ heap → Against free a heap plainly

against : (free : Free) (a : Action) (heap : Heap) → Against free a heap
    (limited_if (makes_number a) (action_result free a heap).outcome)
against free a heap = go (makes_number a) refl
  where
    made : makes_number a ≡ true → (o p : Outcome) → o ≡ (action_result free a heap).outcome → Limits o p
        → Against free a heap p
    made e o p same (same_outcome h) = as_free (h ∙ same)
    made e o p same (cut_off h) = is_cut h (makers_keep free a heap e)

    go : (b : Bool) → makes_number a ≡ b → Against free a heap (limited_if b (action_result free a heap).outcome)
    go true e = made e (action_result free a heap).outcome (limited_outcome (action_result free a heap).outcome) refl
        (limits (action_result free a heap).outcome)
    go false e = as_free refl

pub act_fits : {A : Type 0} (want : Outcome → Out A) (a : Action) → want (stops Cut) ≡ Stops Cut
    → Fits (P.act want a) (F.act want a)
act_fits {A} want a cuts = record {
  at = λ w. go w (free_of (P.next_choice w.choices)) (takes_choice w.state.heap a)
      (limited_if (makes_number a) (action_result (free_of (P.next_choice w.choices)) a w.state.heap).outcome)
      (against (free_of (P.next_choice w.choices)) a w.state.heap);
}
  where
    came : (w : Progress) (free : Free) (taken : Bool) (o : Out A)
        → o ≡ want (action_result free a w.state.heap).outcome → RanTo (F.act want a) w
        (P.comes o (P.after_action taken (action_result free a w.state.heap).heap w))
    came w free taken (Gives v) e = record {
      new = [];
      events = no_more w.events;
      runs =
          inl (record { free = free; is = e; quiet = refl; after = refl });
    }
    came w free taken (Stops stop) e = record {
      new = [];
      events = no_more w.events;
      runs =
          inl (record { free = free; is = e; quiet = refl; after = refl });
    }

    cut : (w : Progress) (free : Free) (taken : Bool) → (action_result free a w.state.heap).heap ≡ w.state.heap
        → RanTo {A = A} (F.act want a) w (Ended Cut (P.after_action taken (action_result free a w.state.heap).heap w))
    cut w free taken e = record {
      new = [];
      events = no_more w.events;
      runs =
          inr (inr (record { is = refl; quiet = refl; same = ap (λ (h : Heap). record w.state { heap = h }) e }));
    }

    go : (w : Progress) (free : Free) (taken : Bool) (p : Outcome) → Against free a w.state.heap p
        → RanTo (F.act want a) w (P.comes (want p) (P.after_action taken (action_result free a w.state.heap).heap w))
    go w free taken p (as_free h) = came w free taken (want p) (ap want h)
    go w free taken p (is_cut h e) = subst (λ (o : Out A). RanTo (F.act want a) w
        (P.comes o (P.after_action taken (action_result free a w.state.heap).heap w))) (sym (ap want h ∙ cuts))
        (cut w free taken e)

pub enter_fits : {A : Type 0} (frame : Frame) (f : P.Step A) (r : F.Step A) → Fits f r
    → Fits (P.enter frame f) (F.enter frame r)
enter_fits {A} frame f r x = record { at = λ w. go w (nat_eq w.depth P.call_limit) }
  where
    back : (w : Progress) (l : After A) → RanTo r (P.after_entry frame w) l → RanTo (F.enter frame r) w (P.left_to w l)
    back w (Came a v) h = record {
      new = h.new;
      events = h.events;
      runs =
          inl (record { left = v.state; runs = h.runs; after = refl });
    }
    back w (Ended stop v) h = record {
      new = h.new;
      events = h.events;
      runs =
          inl (record { left = v.state; runs = h.runs; after = refl });
    }

    go : (w : Progress) (b : Bool) → RanTo (F.enter frame r) w (P.entered_if b frame f w)
    go w true = let h = quiet {A = A} (Stops Cut) w in record {
      new = h.new;
      events = h.events;
      runs =
          inr (inr h.runs);
    }
    go w false = back w (f (P.after_entry frame w)) (x.at (P.after_entry frame w))
