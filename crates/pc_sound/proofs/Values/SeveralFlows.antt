-- An expression that flows into several types: its value is of each, or its place is listed and was evaluated.
use Rattle.std.proofs.Common.{◌≡◌, List, [], ◌∷◌, refl, inl, inr, arith}
use Rattle.std.specs.Prelude.{◌⊎◌, Bool as Test, true, false, Option, Some}
use Rattle.std.proofs.lemmas.List.Elements.{Contains-append_right}
use Rattle.pc_source.specs.declared.place.Place.{Place}
use Rattle.pc_tree.specs.declared.code.Code.{Code}
use Rattle.pc_tree.specs.declared.code.Code.TheVariants.{A1, E03, E12}
use Rattle.pc_tree.specs.Code.{finding}
use Rattle.pc_tree.specs.Tree.{Expr}
use Rattle.pc_tree.specs.Depth.{place_of}
use Rattle.pc_types.specs.Tree.{Tree}
use Rattle.pc_types.specs.Below.{Bases, Static}
use Rattle.pc_flow.specs.Environment.{Env}
use Rattle.pc_rules.specs.Operations.{Label, FlowLabel}
use Rattle.pc_rules.specs.Context.{Context, Flows, static, dynamic, wrong, FlowUnless, FlowAt, FlowsInto, is_early}
use Rattle.pc_rules.specs.Labels.{FlowLabels, Labels, whole_label, type_of, Finds, IsFlowAt}
use Rattle.pc_rules.specs.Lawful.{Lawful}
use Rattle.pc_value.specs.Value.{Value, Out, Gives, Stops}
use Rattle.pc_machine.specs.State.{State}
use Rattle.pc_machine.specs.Free.{Step}
use Rattle.pc_sound.specs.Values.{HeapTyping, HasType}
use Rattle.pc_sound.proofs.Steps.Judgment.{HasListed, Around, IsWellTyped, KeepsState, IsSafe, kept_with}
use Rattle.pc_sound.proofs.Values.ValuesFlow.{of_static}
use Rattle.pc_sound.proofs.Steps.SafeSteps.{weaken, stopped_as}
use Rattle.pc_sound.proofs.Regular.KeyedLabels.{Keyed}
use Rattle.pc_sound.proofs.Expressions.SimpleExpressions.{Covered, GoodEval}
use Rattle.pc_rules.proofs.Saying.{found_here}
use Rattle.pc_sound.proofs.Values.Flows.{Evaluates, early_code}
use Rattle.pc_sound.proofs.Values.UnionMembers.{HasEach}

-- a type is static to each of these
abbrev pub AllStatic : Bases → Tree → List Tree → Type 0
AllStatic bases s [] = Unit {0}
AllStatic bases s (t ∷ ts) = Static bases s t × AllStatic bases s ts

pub each_static : (bases : Bases) (k : HeapTyping) (s : Tree) (ts : List Tree) (v : Value) → AllStatic bases s ts
    → HasType bases k s v → HasEach bases k ts v
each_static bases k s [] v all h = tt
each_static bases k s (t ∷ ts) v all h = (of_static bases k s t all.0 v h, each_static bases k s ts v all.1 h)

-- the flows of a place are allowed where each code of them is a listed place
module _ (around : Around) (p : Place) where
  later_flows : (x : FlowLabel) (xs : FlowLabels) → Covered around (IsFlowAt p (x ∷ xs))
      → Covered around (IsFlowAt p xs)
  later_flows x xs covered f h =
      covered f (record {
        flow = h.flow;
        among = Contains-append_right (x ∷ []) xs h.flow h.among;
        code = h.code;
        found = h.found;
        is = h.is;
      })

  one_flow : (m : Label) → (is_early m.codes ≡ true → around.listed p) → (t : Tree) (x : FlowLabel) (xs : FlowLabels)
      → FlowAt around.bases m t x → Covered around (IsFlowAt p (x ∷ xs)) → Static around.bases m.type t
      ⊎ around.listed p
  one_flow m punctual t x xs at covered = go (is_early m.codes) refl at.code
    where
      found : (d : Code) → x.code ≡ Some d → IsFlowAt p (x ∷ xs) (finding p d)
      found d is = record { flow = x; among = (0, omega arith, refl); code = d; found = is; is = refl }

      by_flow : (d : Option Code) → x.code ≡ d → Flows around.bases m.type t d → Static around.bases m.type t
          ⊎ around.listed p
      by_flow _ is (static below) = inl below
      by_flow _ is (dynamic n a) = inr (covered (finding p A1) (found A1 is)).0
      by_flow _ is (wrong n) = inr (covered (finding p E12) (found E12 is)).0

      go : (early : Test) → is_early m.codes ≡ early → FlowUnless early around.bases m.type t x.code
          → Static around.bases m.type t ⊎ around.listed p
      go true is f = inr (punctual is)
      go false is f = by_flow x.code refl f

  -- where all flows are allowed, they are static or the place is listed
  pub regular_flows : (m : Label) → (is_early m.codes ≡ true → around.listed p) → (ts : List Tree) (cs : FlowLabels)
      → FlowsInto around.bases m ts cs → Covered around (IsFlowAt p cs) → AllStatic around.bases m.type ts
      ⊎ around.listed p
  regular_flows m punctual [] [] flows covered = inl tt
  regular_flows m punctual [] (c ∷ cs) flows covered = absurd flows
  regular_flows m punctual (t ∷ ts) [] flows covered = absurd flows
  regular_flows m punctual (t ∷ ts) (c ∷ cs) flows covered = elim (one_flow m punctual t c cs flows.0 covered) [
    | inr l ↦ inr l
    | inl s ↦ elim (regular_flows m punctual ts cs flows.1 (later_flows c cs covered))
        [ inl all ↦ inl (s, all) | inr l ↦ inr l ]
  ]

-- an expression of which all findings are allowed is not one with E03
pub is_punctual : (around : Around) (e : Expr) (m : Labels e) → Covered around (Finds e m)
    → is_early (whole_label e m).codes ≡ true → around.listed (place_of e)
is_punctual around e m covered is = (covered (finding (place_of e) E03)
    (found_here e m (finding (place_of e) E03) (record {
      code = E03;
      among = early_code (whole_label e m).codes is;
      is =
          refl;
    }))).0

module _ (around : Around) (ctx : Context) (eval : Expr → Step Value) (good : GoodEval around ctx eval)
    (evaluates : (e : Expr) → Evaluates (place_of e) (eval e)) (env : Env) where
  -- an expression that flows into several types, whose flows' codes are allowed
  pub flows_safe : (known : HeapTyping → Type 0) (want : Option Tree) (e : Expr) (m : Labels e) (ts : List Tree)
      (cs : FlowLabels) → Lawful ctx around.declared env want e m → Covered around (Finds e m)
      → FlowsInto around.bases (whole_label e m) ts cs → Covered around (IsFlowAt (place_of e) cs) → Keyed e m
      → IsSafe around env known (eval e) (λ k v. HasType around.bases k (type_of e m) v × HasEach around.bases k ts v)
  flows_safe known want e m ts cs law covered flows allowed keyed =
      elim (regular_flows around (place_of e) (whole_label e m) (is_punctual around e m covered) ts cs flows allowed) [
        | inl all ↦ weaken around env known (λ k. Unit {0}) (eval e) (λ k v. HasType around.bases k (type_of e m) v)
            (λ k v. HasType around.bases k (type_of e m) v × HasEach around.bases k ts v) (λ k h. tt)
            (λ k v h. (h, each_static around.bases k (type_of e m) ts v all h))
            (good.safe env want e m law covered keyed)
        | inr l ↦ record { run = dynamic_run l }
      ]
    where
      part : IsSafe around env (λ k. Unit {0}) (eval e) (λ k v. HasType around.bases k (type_of e m) v)
      part = good.safe env want e m law covered keyed

      dynamic_run : around.listed (place_of e) → (k : HeapTyping) (s s' : State) (events : List Place) (o : Out Value)
          → known k → IsWellTyped around env k s → eval e s events o s' → HasListed around.listed events
          ⊎ KeepsState around (λ k v. HasType around.bases k (type_of e m) v × HasEach around.bases k ts v) k s o s'
      dynamic_run here k s s' events (Gives v) knows st r =
          inl (record { place = place_of e; is = here; event = (evaluates e).place s s' events v r })
      dynamic_run here k s s' events (Stops stop) knows st r = elim (part.run k s s' events (Stops stop) tt st r) [
        | inl l ↦ inl l
        | inr kept ↦ inr (kept_with kept (stopped_as (λ v. HasType around.bases kept.typing (type_of e m) v)
            (λ v. HasType around.bases kept.typing (type_of e m) v × HasEach around.bases kept.typing ts v) stop
            kept.ends))
      ]
