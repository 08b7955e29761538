-- Laws of the plain runs of a module.
use Rattle.std.proofs.Common.{◌≡◌, ◌+◌, ◌-◌, ◌<◌, ℕ, suc, Bool, true, false, List, [], refl, ap, sym, ◌∙◌, subst}
use Rattle.std.proofs.Common.{true≢false, add-zero, add-sub_of_le, arith, inl, inr}
use Rattle.pc_source.specs.declared.place.Place.{Place}
use Rattle.pc_tree.specs.Tree.{Module}
use Rattle.pc_tree.specs.Stopping.{is_runnable}
use Rattle.pc_value.specs.Value.{Value, Outside}
use Rattle.pc_machine.specs.Plain.{After, Came, Ended, begin}
use Rattle.pc_machine.specs.Runs.{End, done, stopped, Leaves, PlainlyRan, plain_module}
use Rattle.pc_plain_runs.specs.PlainRuns.{AreOneRun, OnePlainRun, HasPlainRun, EveryModuleRunsPlainly, IsBeginning, BeginsAs}
use Rattle.pc_plain_runs.specs.PlainRuns.{LessFuelGivesABeginning}
use Rattle.pc_plain_runs.proofs.Fuel.{Follows, events_of, begins_itself}
use Rattle.pc_plain_runs.proofs.FuelModules.{module_same}

-- ---- there is one at most

-- two runs that a result of steps leaves are the same run
left_once : (l : After Value) (events others : List Place) (end last : End) → Leaves l events end
    → Leaves l others last → AreOneRun events end others last
left_once (Came v w) events others end last h k = (h.0 ∙ sym k.0, h.1 ∙ sym k.1)
left_once (Ended stop w) events others end last h k = (h.0 ∙ sym k.0, h.1 ∙ sym k.1)

pub only_one : OnePlainRun
only_one m fuel choices events others end last (inl h) (inl k) = (h.1.quiet ∙ sym k.1.quiet, h.1.is ∙ sym k.1.is)
only_one m fuel choices events others end last (inl h) (inr k) = absurd (true≢false (sym k.0 ∙ h.0))
only_one m fuel choices events others end last (inr h) (inl k) = absurd (true≢false (sym h.0 ∙ k.0))
only_one m fuel choices events others end last (inr h) (inr k) =
    left_once (plain_module (suc fuel) m (begin fuel choices)) events others end last
    (h.1.leaves (suc fuel) (omega arith)) (k.1.leaves (suc fuel) (omega arith))

-- ---- there is one

-- how it ends
abbrev end_after : After Value → End
end_after (Came v w) = done
end_after (Ended stop w) = stopped stop

-- the same fuel leaves the same
leaves_too : (bound : ℕ) (l r : After Value) → Follows 0 bound l r → Leaves r (events_of l) (end_after l)
leaves_too bound (Came v w) r h = rw h.0 (refl, refl)
leaves_too bound (Ended stop w) r (inl e) = rw e (refl, refl)
leaves_too bound (Ended stop w) r (inr h) = absurd (omega (arith, h.1))

runs_plainly : (m : Module) (fuel : ℕ) (choices : List ℕ) (n : ℕ) → fuel < n
    → Leaves (plain_module n m (begin fuel choices)) (events_of (plain_module (suc fuel) m (begin fuel choices)))
    (end_after (plain_module (suc fuel) m (begin fuel choices)))
runs_plainly m fuel choices n lt = leaves_too (suc fuel) (plain_module (suc fuel) m (begin fuel choices))
    (plain_module n m (begin fuel choices))
    (subst (λ (k : ℕ). Follows 0 (suc fuel) (plain_module (suc fuel) m (begin fuel choices))
    (plain_module n m (begin k choices))) (add-zero fuel)
    ((module_same 0 (suc fuel) n (omega arith) m).at (begin fuel choices) (omega arith)))

pub there_is_one : EveryModuleRunsPlainly
there_is_one m fuel choices = go (is_runnable m) refl
  where
    go : (b : Bool) → is_runnable m ≡ b → HasPlainRun m fuel choices
    go true e = record {
      events = events_of (plain_module (suc fuel) m (begin fuel choices));
      end = end_after (plain_module (suc fuel) m (begin fuel choices));
      runs = inr (e, record { leaves = runs_plainly m fuel choices });
    }
    go false e = record { events = []; end = stopped Outside; runs = inl (e, record { quiet = refl; is = refl }) }

-- ---- with less fuel

one_begins : (events others : List Place) (end last : End) → AreOneRun events end others last
    → BeginsAs events end others last
one_begins events others end last h =
    (subst (λ (es : List Place). IsBeginning events es) h.0 (begins_itself events), inr h)

events_left : (l : After Value) (events : List Place) (end : End) → Leaves l events end → events ≡ events_of l
events_left (Came v w) events end h = h.0
events_left (Ended stop w) events end h = h.0

both_left : (d bound : ℕ) (l r : After Value) (events others : List Place) (end last : End) → Follows d bound l r
    → Leaves l events end → Leaves r others last → BeginsAs events end others last
both_left d bound (Came v w) r events others end last f h k =
    let k' = subst (λ (x : After Value). Leaves x others last) f.0 k
    in one_begins events others end last (h.0 ∙ sym k'.0, h.1 ∙ sym k'.1)
both_left d bound (Ended stop w) r events others end last (inl e) h k =
    let k' = subst (λ (x : After Value). Leaves x others last) e k
    in one_begins events others end last (h.0 ∙ sym k'.0, h.1 ∙ sym k'.1)
both_left d bound (Ended stop w) r events others end last (inr f) h k = (
  subst (λ (es : List Place). IsBeginning es others) (sym h.0)
      (subst (λ (es : List Place). IsBeginning w.events es) (sym (events_left r others last k)) f.2),
  inl (h.1 ∙ ap stopped f.0),
)

with_more : (m : Module) (less d : ℕ) (choices : List ℕ) (events others : List Place) (end last : End)
    → PlainlyRan m less choices events end → PlainlyRan m (less + d) choices others last
    → BeginsAs events end others last
with_more m less d choices events others end last h k = both_left d (suc less)
    (plain_module (suc less) m (begin less choices))
    (plain_module (suc (less + d)) m (begin (less + d) choices)) events others end last
    ((module_same d (suc less) (suc (less + d)) (omega arith) m).at (begin less choices) (omega arith))
    (h.leaves (suc less) (omega arith)) (k.leaves (suc (less + d)) (omega arith))

pub less_begins : LessFuelGivesABeginning
less_begins m less more choices events others end last le (inl h) (inl k) =
    one_begins events others end last (h.1.quiet ∙ sym k.1.quiet, h.1.is ∙ sym k.1.is)
less_begins m less more choices events others end last le (inl h) (inr k) = absurd (true≢false (sym k.0 ∙ h.0))
less_begins m less more choices events others end last le (inr h) (inl k) = absurd (true≢false (sym h.0 ∙ k.0))
less_begins m less more choices events others end last le (inr h) (inr k) =
    with_more m less (more - less) choices events others end last h.1
    (subst (λ (n : ℕ). PlainlyRan m n choices others last) (sym (add-sub_of_le le)) k.1)
