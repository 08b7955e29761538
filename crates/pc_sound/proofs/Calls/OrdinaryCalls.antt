-- An ordinary call: the callee, the arguments, the event of the call, then what is called.
use Rattle.std.proofs.Common.{◌≡◌, ℕ, List, [], subst}
use Rattle.pc_source.specs.declared.place.Place.{Place}
use Rattle.pc_tree.specs.Tree.{Expr, Exprs, Keywords}
use Rattle.pc_tree.specs.Depth.{place_of}
use Rattle.pc_flow.specs.Environment.{Env}
use Rattle.pc_rules.specs.Operations.{Label}
use Rattle.pc_rules.specs.Context.{Context}
use Rattle.pc_rules.specs.Calls.{Seat}
use Rattle.pc_rules.specs.Labels.{ItemsLabels, KeywordsLabels, ItemsFind, KeywordsFind, IsFoundAt}
use Rattle.pc_rules.specs.Lawful.{LawfulItems, LawfulKeywords}
use Rattle.pc_value.specs.Value.{Value}
use Rattle.pc_machine.specs.Calls.{Callee, NamedValue}
use Rattle.pc_machine.specs.Evaluation.{eval_all, eval_keywords, call_callee}
use Rattle.pc_machine.specs.Steps.{Parts}
use Rattle.pc_machine.specs.Free.{Step, free, ◌>>=◌, Emits}
use Rattle.pc_sound.specs.Values.{HeapTyping}
use Rattle.pc_sound.proofs.Steps.Judgment.{Around, IsSafe, IsContextOf}
use Rattle.pc_sound.proofs.Steps.SafeSteps.{Stays, bind_safe, emits_safe}
use Rattle.pc_sound.proofs.Regular.KeyedLabels.{ItemsKeyed, KeywordsKeyed}
use Rattle.pc_sound.proofs.Expressions.SimpleExpressions.{Covered, GoodEval, allowed}
use Rattle.pc_sound.proofs.Values.Flows.{Evaluates}
use Rattle.pc_sound.proofs.Calls.Arguments.{ArgumentsHave, KeywordsHave, arguments_later, keywords_later}
use Rattle.pc_sound.proofs.Calls.Arguments.{arguments_safe, keywords_safe}

-- a step of a value that is known to equal another one is the other's
pub equal_safe : (around : Around) (env : Env) {A B : Type 0} (known : HeapTyping → Type 0) (f : A → Step B) (a b : A)
    (P : HeapTyping → B → Type 0) → ((k : HeapTyping) → known k → a ≡ b) → IsSafe around env known (f b) P
    → IsSafe around env known (f a) P
equal_safe around env known f a b P same safe = record {
  run = λ k s s' events o knows st r. safe.run k s s' events o
      knows st (subst (λ x. f x s events o s') (same k knows) r);
}

-- where what is known cannot be, each step is safe
pub impossible_safe : (around : Around) (env : Env) {A : Type 0} (known : HeapTyping → Type 0) (m : Step A)
    (P : HeapTyping → A → Type 0) → ((k : HeapTyping) → known k → ⊥) → IsSafe around env known m P
impossible_safe around env known m P never = record { run = λ k s s' events o knows st r. absurd (never k knows) }

module _ (around : Around) (ctx : Context) (fits : IsContextOf around ctx) (parts : Parts Step)
    (good : GoodEval around ctx parts.eval) (evaluates : (e : Expr) → Evaluates (place_of e) (parts.eval e))
    (env : Env) where
  -- the facts known before a call runs: of the callee, of the arguments, and that no code stands at the call
  abbrev pub KnownCall : (HeapTyping → Callee → Type 0) → (seat : ℕ → Seat) → (named : List ℕ → Seat) → (args : Exprs)
      → ItemsLabels args → (kws : Keywords) → KeywordsLabels kws → Label → Callee → List Value → List NamedValue
      → HeapTyping → Type 0
  KnownCall Q seat named args labels kws klabels here c values more k =
      (((Unit {0} × Q k c) × ArgumentsHave around.bases k seat args labels values)
      × KeywordsHave around.bases k named [] kws klabels more) × (here.codes ≡ [])

  -- an ordinary call is safe where its callee is, and what is called with arguments that fit
  pub ordinary_safe :
      (p : Place) (callee : Step Callee) (Q : HeapTyping → Callee → Type 0) (stays : (c : Callee) → Stays (λ k. Q k c))
      → IsSafe around env (λ k. Unit {0}) callee Q
      → (seat : ℕ → Seat) (named : List ℕ → Seat) (args : Exprs) (labels : ItemsLabels args) (kws : Keywords)
      (klabels : KeywordsLabels kws) (here : Label)
      → LawfulItems ctx around.declared env seat args labels → LawfulKeywords ctx around.declared env named [] kws
      klabels
      → Covered around (ItemsFind args labels) → Covered around (KeywordsFind kws klabels)
      → Covered around (IsFoundAt p here.codes) → ItemsKeyed args labels → KeywordsKeyed kws klabels
      → (P : HeapTyping → Value → Type 0) → ((c : Callee) (values : List Value) (more : List NamedValue)
      → IsSafe around env (KnownCall Q seat named args labels kws klabels here c values more)
      (call_callee Step free parts c values more) P)
      → IsSafe around env (λ k. Unit {0}) (callee >>= λ c. eval_all Step free parts.eval args >>= λ values.
      eval_keywords Step free parts.eval kws >>= λ more. Emits p >>= λ u. call_callee Step free parts c values more)
      P
  ordinary_safe p callee Q stays safe seat named args labels kws klabels here law klaw covered kcovered hcovered keyed
      kkeyed P calls =
      bind_safe around env _ _ _ Q _ (λ k k' x h. tt) safe
      λ c. bind_safe around env _ _ _ (λ k values. ArgumentsHave around.bases k seat args labels values) _
      (λ k k' x h. (tt, stays c k k' x h.1))
      (arguments_safe around ctx fits parts.eval good evaluates env (λ k. Unit {0} × Q k c)
      (λ k k' x h. (tt, stays c k k' x h.1)) seat args labels law covered keyed)
      λ values. bind_safe around env _ _ _ (λ k more. KeywordsHave around.bases k named [] kws klabels more) _
      (λ k k' x h. ((tt, stays c k k' x h.0.1), arguments_later around.bases x seat args labels values h.1))
      (keywords_safe around ctx fits parts.eval good evaluates env (λ k. (Unit {0} × Q k c)
      × ArgumentsHave around.bases k seat args labels values) (λ k k' x h.
      ((tt, stays c k k' x h.0.1), arguments_later around.bases x seat args labels values h.1)) named [] kws klabels
      klaw kcovered kkeyed)
      λ more. bind_safe around env _ _ _ (λ k u. here.codes ≡ []) _
      (λ k k' x h. (
        ((tt, stays c k k' x h.0.0.1), arguments_later around.bases x seat args labels values h.0.1),
        keywords_later around.bases x named [] kws klabels more h.1,
      ))
      (emits_safe around env _ p here.codes (allowed around p here.codes hcovered))
      λ u. calls c values more
