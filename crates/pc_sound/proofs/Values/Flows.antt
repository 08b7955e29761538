-- A flow: if it is static the value is of the type; if it is dynamic its place is listed, and was evaluated.
use Rattle.std.proofs.Common.{◌≡◌, List, [], ◌∷◌, refl, sym, subst, inl, inr, arith, Contains}
use Rattle.std.specs.Prelude.{◌⊎◌, Bool as Test, true, false, Option, Some}
use Rattle.std.proofs.lemmas.List.Elements.{Contains-append_left, Contains-append_right}
use Rattle.pc_source.specs.declared.place.Place.{Place}
use Rattle.pc_tree.specs.declared.code.Code.{Code}
use Rattle.pc_tree.specs.declared.code.Code.TheVariants.{A1, E03, E12}
use Rattle.pc_tree.specs.Code.{finding}
use Rattle.pc_tree.specs.Tree.{Expr}
use Rattle.pc_tree.specs.Depth.{place_of}
use Rattle.pc_types.specs.Tree.{Tree}
use Rattle.pc_flow.specs.Environment.{Env}
use Rattle.pc_rules.specs.Operations.{FlowLabel}
use Rattle.pc_rules.specs.Context.{Context, Flows, static, dynamic, wrong, FlowUnless, FlowAt, is_early}
use Rattle.pc_rules.specs.Labels.{Labels, whole_label, type_of, Finds, IsFlowAt}
use Rattle.pc_rules.specs.Lawful.{Lawful}
use Rattle.pc_rules.proofs.Saying.{found_here}
use Rattle.pc_value.specs.Value.{Value, Out, Gives, Stops}
use Rattle.pc_machine.specs.State.{State}
use Rattle.pc_machine.specs.Free.{Step, ◌>>=◌, Emits}
use Rattle.pc_sound.specs.Values.{HeapTyping, HasType}
use Rattle.pc_sound.proofs.Steps.Judgment.{HasListed, Around, IsWellTyped, KeepsState, IsSafe, kept_with}
use Rattle.pc_sound.proofs.Regular.KeyedLabels.{Keyed}
use Rattle.pc_sound.proofs.Values.ValuesFlow.{of_static}
use Rattle.pc_sound.proofs.Steps.SafeSteps.{weaken, gives_not_stops, stopped_as}
use Rattle.pc_sound.proofs.Expressions.SimpleExpressions.{Covered, GoodEval}

-- an end in a value only after the place was evaluated
pub record Evaluates {A : Type 0} (p : Place) (m : Step A) : Type 0 where
  pub place : (s s' : State) (events : List Place) (a : A) → m s events (Gives a) s' → Contains events p

pub emit_evaluates : (p : Place) → Evaluates p (Emits p)
emit_evaluates p = record { place = λ s s' events a h. subst (λ l. Contains l p) (sym h.event) (0, omega arith, refl) }

pub later_evaluates : {A B : Type 0} (p : Place) (m : Step A) (f : A → Step B) → ((a : A) → Evaluates p (f a))
    → Evaluates p (m >>= f)
later_evaluates p m f h = record {
  place = λ s s' events b r. elim r [
    | inl w ↦ subst (λ l. Contains l p) (sym w.both) (Contains-append_right w.early w.late p
        ((h w.value).place w.middle s' w.late b w.after))
    | inr w ↦ absurd (gives_not_stops w.is)
  ];
}

pub first_evaluates : {A B : Type 0} (p : Place) (m : Step A) (f : A → Step B) → Evaluates p m → Evaluates p (m >>= f)
first_evaluates p m f h = record {
  place = λ s s' events b r. elim r [
    | inl w ↦ subst (λ l. Contains l p) (sym w.both) (Contains-append_left w.early w.late p
        (h.place s w.middle w.early w.value w.before))
    | inr w ↦ absurd (gives_not_stops w.is)
  ];
}

-- a node with E03 is in error
pub early_code : (codes : List Code) → is_early codes ≡ true → Contains codes E03
early_code [] e = absurd (grind (arith, e))
early_code (E03 ∷ cs) e = (0, omega arith, refl)
early_code (c ∷ cs) e = absurd (grind (arith, e))

module _ (around : Around) (ctx : Context) (eval : Expr → Step Value) (good : GoodEval around ctx eval)
    (evaluates : (e : Expr) → Evaluates (place_of e) (eval e)) (env : Env) where
  -- an expression that flows into a type, whose flow's code is allowed
  pub flow_safe : (known : HeapTyping → Type 0) (want : Option Tree) (e : Expr) (m : Labels e) (t : Tree)
      (flow : FlowLabel) → Lawful ctx around.declared env want e m → Covered around (Finds e m)
      → FlowAt around.bases (whole_label e m) t flow → Covered around (IsFlowAt (place_of e) (flow ∷ [])) → Keyed e m
      → IsSafe around env known (eval e) (λ k v. HasType around.bases k t v)
  flow_safe known want e m t flow law covered at allowed keyed = go (is_early (whole_label e m).codes) refl at.code
    where
      part : IsSafe around env known (eval e) (λ k v. HasType around.bases k (type_of e m) v)
      part = weaken around env known (λ k. Unit {0}) (eval e) (λ k v. HasType around.bases k (type_of e m) v)
          (λ k v. HasType around.bases k (type_of e m) v) (λ k h. tt) (λ k v h. h)
          (good.safe env want e m law covered keyed)

      found : (d : Code) → flow.code ≡ Some d → IsFlowAt (place_of e) (flow ∷ []) (finding (place_of e) d)
      found d is = record { flow = flow; among = (0, omega arith, refl); code = d; found = is; is = refl }

      dynamic_run : around.listed (place_of e) → (k : HeapTyping) (s s' : State) (events : List Place) (o : Out Value)
          → known k → IsWellTyped around env k s → eval e s events o s' → HasListed around.listed events
          ⊎ KeepsState around (λ k v. HasType around.bases k t v) k s o s'
      dynamic_run here k s s' events (Gives v) knows st r =
          inl (record { place = place_of e; is = here; event = (evaluates e).place s s' events v r })
      dynamic_run here k s s' events (Stops stop) knows st r = elim (part.run k s s' events (Stops stop) knows st r) [
        | inl l ↦ inl l
        | inr kept ↦ inr (kept_with kept (stopped_as (λ v. HasType around.bases kept.typing (type_of e m) v)
            (λ v. HasType around.bases kept.typing t v) stop kept.ends))
      ]

      by_flow : (d : Option Code) → flow.code ≡ d → Flows around.bases (type_of e m) t d
          → IsSafe around env known (eval e) (λ k v. HasType around.bases k t v)
      by_flow _ is (static below) = weaken around env known known (eval e)
          (λ k v. HasType around.bases k (type_of e m) v) (λ k v. HasType around.bases k t v) (λ k h. h)
          (λ k v h. of_static around.bases k (type_of e m) t below v h) part
      by_flow _ is (dynamic n a) = record { run = dynamic_run (allowed (finding (place_of e) A1) (found A1 is)).0 }
      by_flow _ is (wrong n) = record { run = dynamic_run (allowed (finding (place_of e) E12) (found E12 is)).0 }

      go : (early : Test) → is_early (whole_label e m).codes ≡ early → FlowUnless early around.bases (type_of e m) t
          flow.code → IsSafe around env known (eval e) (λ k v. HasType around.bases k t v)
      go true is f = record {
        run = dynamic_run (covered (finding (place_of e) E03) (found_here e m (finding (place_of e) E03)
            (record { code = E03; among = early_code (whole_label e m).codes is; is = refl }))).0;
      }
      go false is f = by_flow flow.code refl f
