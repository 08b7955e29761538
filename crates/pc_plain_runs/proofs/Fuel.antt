-- Two plain runs, one with more fuel: each step that the text of the model is built from.
use Rattle.std.proofs.Common.{◌≡◌, ◌⊎◌, ℕ, zero, suc, ◌+◌, ◌<◌, Bool, true, false, List, [], ◌∷◌, ◌++◌, refl, ap}
use Rattle.std.proofs.Common.{◌∙◌, subst, sym, inl, inr, append_assoc, append-nil, zero-add, arith}
use Rattle.std.specs.Prelude.{nat_eq}
use Rattle.pc_source.specs.declared.place.Place.{Place}
use Rattle.pc_value.specs.Value.{Stop, Cut, Out, Gives, Stops}
use Rattle.pc_value.specs.Actions.{Action, Outcome}
use Rattle.pc_value.specs.Outcomes.{takes_choice}
use Rattle.pc_value.specs.Plain.{plainly_acted}
use Rattle.pc_machine.specs.State.{State, Frame}
use Rattle.pc_machine.specs.Plain as P
use Rattle.pc_machine.specs.Plain.{Progress, After, Came, Ended, Step, plain}
use Rattle.pc_plain_runs.specs.PlainRuns.{IsBeginning}

-- the same progress with more fuel
abbrev pub more : ℕ → Progress → Progress
more d w = record w { fuel = w.fuel + d }

-- the events by then
abbrev pub events_of : {A : Type 0} → After A → List Place
events_of (Came a w) = w.events
events_of (Ended stop w) = w.events

-- with more fuel it comes to the same, below a bound on the fuel; or ends in the same; or it was cut off, and goes on
abbrev pub Follows : ℕ → ℕ → {A : Type 0} → After A → After A → Type 0
Follows d j (Came a v) r = (r ≡ Came a (more d v)) × (v.fuel < j)
Follows d j (Ended stop v) r = (r ≡ Ended stop (more d v)) ⊎ ((stop ≡ Cut) × (0 < d) × IsBeginning v.events
    (events_of r))

-- two steps, of which the second has more fuel: below a bound on the fuel before them, and one on the fuel after them
pub record Same (d n j : ℕ) {A : Type 0} (f g : Step A) : Type 0 where
  pub at : (w : Progress) → w.fuel < n → Follows d j (f w) (g (more d w))
  pub grows : (w : Progress) → IsBeginning w.events (events_of (g w))

-- the same bound before them and after them
abbrev pub Keeps : ℕ → ℕ → {A : Type 0} → Step A → Step A → Type 0
Keeps d n f g = Same d n n f g

-- ---- beginnings

pub begins_itself : (es : List Place) → IsBeginning es es
begins_itself es = record { rest = []; is = sym (append-nil es) }

pub begins_further : (es fs gs : List Place) → IsBeginning es fs → IsBeginning fs gs → IsBeginning es gs
begins_further es fs gs h k = record {
  rest = h.rest ++ k.rest;
  is = k.is ∙ ap (λ (xs : List Place). xs ++ k.rest) h.is ∙ append_assoc es h.rest k.rest;
}

-- ---- steps

pub loosely : {d n j : ℕ} {A : Type 0} (f g : Step A) → Same d n j f g → Same d n (suc j) f g
loosely {d} {n} {j} {A} f g x = record { at = λ w lt. go (f w) (g (more d w)) (x.at w lt); grows = x.grows }
  where
    go : (l r : After A) → Follows d j l r → Follows d (suc j) l r
    go (Came a v) r h = (h.0, omega (arith, h.1))
    go (Ended stop v) r h = h

-- below no bound nothing is said of what they come to
pub never : {d n j i : ℕ} {A : Type 0} (f g r : Step A) → Same d n j f r → Same d 0 i g r
never f g r x = record { at = λ w lt. absurd (omega (arith, lt)); grows = x.grows }

pub bind_same : {d n j i : ℕ} {A B : Type 0} (f f' : Step A) (g g' : A → Step B) → Same d n j f f'
    → ((a : A) → Same d j i (g a) (g' a)) → Same d n i (plain.◌>>=◌ f g) (plain.◌>>=◌ f' g')
bind_same {d} {n} {j} {i} {A} {B} f f' g g' x y = record {
  at = λ w lt. go (f w) (f' (more d w)) (x.at w lt);
  grows = λ w. begins_further w.events (events_of (f' w)) (events_of (P.and_then (f' w) g')) (x.grows w)
      (then_grows (f' w));
}
  where
    then_grows : (r : After A) → IsBeginning (events_of r) (events_of (P.and_then r g'))
    then_grows (Came a v) = (y a).grows v
    then_grows (Ended stop v) = begins_itself v.events

    go : (l r : After A) → Follows d j l r → Follows d i (P.and_then l g) (P.and_then r g')
    go (Came a v) r h = rw h.0 ((y a).at v h.1)
    go (Ended stop v) r (inl e) = inl (ap (λ k. P.and_then k g') e)
    go (Ended stop v) r (inr h) = inr (
      h.0,
      h.1,
      begins_further v.events (events_of r) (events_of (P.and_then r g')) h.2 (then_grows r),
    )

pub pure_same : {d n : ℕ} {A : Type 0} (a : A) → Same d n n (plain.pure a) (plain.pure a)
pure_same a = record { at = λ w lt. (refl, lt); grows = λ w. begins_itself w.events }

pub stop_same : {d n j : ℕ} {A : Type 0} (stop : Stop) → Same d n j {A = A} (plain.stop stop) (plain.stop stop)
stop_same stop = record { at = λ w lt. inl refl; grows = λ w. begins_itself w.events }

charge_grows : (fuel : ℕ) (w : Progress) → IsBeginning w.events (events_of (P.charge_from fuel w))
charge_grows zero w = begins_itself w.events
charge_grows (suc fuel) w = begins_itself w.events

out_of_fuel : (d j : ℕ) (w : Progress) → Follows d j (Ended Cut w) (P.charge_from d (more d w))
out_of_fuel zero j w = inl refl
out_of_fuel (suc d) j w = inr (refl, omega arith, begins_itself w.events)

-- a charge leaves less fuel
pub charge_same : {d n : ℕ} → Same d (suc n) n plain.charge plain.charge
charge_same {d} {n} = record { at = λ w lt. go w.fuel w lt; grows = λ w. charge_grows w.fuel w }
  where
    go : (fuel : ℕ) (w : Progress) → fuel < suc n
        → Follows d n (P.charge_from fuel w) (P.charge_from (fuel + d) (more d w))
    go zero w lt = subst (λ (k : ℕ). Follows d n (Ended Cut w) (P.charge_from k (more d w))) (sym (zero-add d))
        (out_of_fuel d n w)
    go (suc fuel) w lt = let e : suc (fuel + d) ≡ suc fuel + d = omega arith in
        subst (λ (k : ℕ). Follows d n (P.charge_from (suc fuel) w) (P.charge_from k (more d w))) e (refl, omega arith)

-- and so it leaves no more
pub charged_same : {d n : ℕ} → Same d n n plain.charge plain.charge
charged_same {d} {n} = record { at = λ w lt. go w.fuel w lt; grows = λ w. charge_grows w.fuel w }
  where
    go : (fuel : ℕ) (w : Progress) → fuel < n
        → Follows d n (P.charge_from fuel w) (P.charge_from (fuel + d) (more d w))
    go zero w lt = subst (λ (k : ℕ). Follows d n (Ended Cut w) (P.charge_from k (more d w))) (sym (zero-add d))
        (out_of_fuel d n w)
    go (suc fuel) w lt = let e : suc (fuel + d) ≡ suc fuel + d = omega arith in
        subst (λ (k : ℕ). Follows d n (P.charge_from (suc fuel) w) (P.charge_from k (more d w))) e (refl, omega arith)

pub emit_same : {d n : ℕ} (place : Place) → Same d n n (plain.emit place) (plain.emit place)
emit_same place = record { at = λ w lt. (refl, lt); grows = λ w. record { rest = place ∷ []; is = refl } }

comes_same : (d n : ℕ) {A : Type 0} (o : Out A) (w : Progress) → w.fuel < n
    → Follows d n (P.comes o w) (P.comes o (more d w))
comes_same d n (Gives a) w lt = (refl, lt)
comes_same d n (Stops stop) w lt = inl refl

comes_grows : {A : Type 0} (o : Out A) (w : Progress) → IsBeginning w.events (events_of (P.comes o w))
comes_grows (Gives a) w = begins_itself w.events
comes_grows (Stops stop) w = begins_itself w.events

pub look_same : {d n : ℕ} {A : Type 0} (f : State → Out A) → Same d n n (plain.look f) (plain.look f)
look_same {d} {n} f = record { at = λ w lt. comes_same d n (f w.state) w lt; grows = λ w. comes_grows (f w.state) w }

pub change_same : {d n : ℕ} (f : State → State) → Same d n n (plain.change f) (plain.change f)
change_same f = record { at = λ w lt. (refl, lt); grows = λ w. begins_itself w.events }

pub act_same : {d n : ℕ} {A : Type 0} (want : Outcome → Out A) (a : Action) → Same d n n (plain.act want a)
    (plain.act want a)
act_same {d} {n} {A} want a = record {
  at = λ w lt. comes_same d n (want (plainly_acted (P.next_choice w.choices) a w.state.heap).outcome) (after w) lt;
  grows = λ w. comes_grows (want (plainly_acted (P.next_choice w.choices) a w.state.heap).outcome) (after w);
}
  where
    after : Progress → Progress
    after w = P.after_action (takes_choice w.state.heap a)
        (plainly_acted (P.next_choice w.choices) a w.state.heap).heap w

pub enter_same : {d n j : ℕ} {A : Type 0} (frame : Frame) (f g : Step A) → Same d n j f g
    → Same d n j (plain.enter frame f) (plain.enter frame g)
enter_same {d} {n} {j} {A} frame f g x = record {
  at = λ w lt. go w lt (nat_eq w.depth P.call_limit);
  grows = λ w. go_grows w (nat_eq w.depth P.call_limit);
}
  where
    events_back : (w : Progress) (r : After A) → events_of (P.left_to w r) ≡ events_of r
    events_back w (Came a v) = refl
    events_back w (Ended stop v) = refl

    back : (w : Progress) (l r : After A) → Follows d j l r → Follows d j (P.left_to w l) (P.left_to (more d w) r)
    back w (Came a v) r h = (ap (λ k. P.left_to (more d w) k) h.0, h.1)
    back w (Ended stop v) r (inl e) = inl (ap (λ k. P.left_to (more d w) k) e)
    back w (Ended stop v) r (inr h) = inr (h.0, h.1, rw events_back h.2)

    go : (w : Progress) → w.fuel < n → (b : Bool)
        → Follows d j (P.entered_if b frame f w) (P.entered_if b frame g (more d w))
    go w lt true = inl refl
    go w lt false = back w (f (P.after_entry frame w)) (g (P.after_entry frame (more d w)))
        (x.at (P.after_entry frame w) lt)

    go_grows : (w : Progress) (b : Bool) → IsBeginning w.events (events_of (P.entered_if b frame g w))
    go_grows w true = begins_itself w.events
    go_grows w false = rw events_back (x.grows (P.after_entry frame w))
