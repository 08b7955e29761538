-- Arguments and items, one after another: each value is of its expression's type and of each type that it flows into.
use Rattle.std.proofs.Common.{◌≡◌, ℕ, suc, List, [], ◌∷◌, refl, sym, subst, inl, inr}
use Rattle.pc_tree.specs.Tree.{Expr, Exprs, Keywords, no_exprs, more_exprs, no_keywords, more_keywords}
use Rattle.pc_tree.specs.Depth.{place_of}
use Rattle.pc_types.specs.Below.{Bases}
use Rattle.pc_flow.specs.Environment.{Env}
use Rattle.pc_rules.specs.Context.{Context, FlowsInto}
use Rattle.pc_rules.specs.Calls.{Seat}
use Rattle.pc_rules.specs.Labels.{ItemsLabels, KeywordsLabels, whole_label, type_of, ItemsFind, KeywordsFind}
use Rattle.pc_rules.specs.Lawful.{LawfulItems, LawfulKeywords, keyword_seat}
use Rattle.pc_value.specs.Value.{Value, Gives}
use Rattle.pc_machine.specs.Calls.{NamedValue}
use Rattle.pc_machine.specs.Evaluation.{eval_all, eval_keywords}
use Rattle.pc_machine.specs.Free.{Step, free}
use Rattle.pc_sound.specs.Values.{HeapTyping, HasType, Extends}
use Rattle.pc_sound.proofs.Steps.Judgment.{Around, IsSafe, IsContextOf}
use Rattle.pc_sound.proofs.Values.ValuesFlow.{later}
use Rattle.pc_sound.proofs.Steps.SafeSteps.{Stays, bind_safe, comes_safe}
use Rattle.pc_sound.proofs.Regular.KeyedLabels.{ItemsKeyed, KeywordsKeyed}
use Rattle.pc_sound.proofs.Expressions.SimpleExpressions.{Covered, GoodEval}
use Rattle.pc_sound.proofs.Values.Flows.{Evaluates}
use Rattle.pc_sound.proofs.Values.UnionMembers.{HasEach, each_later}
use Rattle.pc_sound.proofs.Values.SeveralFlows.{flows_safe}

-- each value is of its argument's type and of each type of its seat
abbrev pub ArgumentsHave : Bases → HeapTyping → (seat : ℕ → Seat) → (es : Exprs) → ItemsLabels es → List Value → Type 0
ArgumentsHave bases k seat no_exprs m [] = Unit {0}
ArgumentsHave bases k seat (more_exprs e rest) m (v ∷ vs) = (HasType bases k (type_of e m.first) v
    × HasEach bases k (seat 0).into v) × ArgumentsHave bases k (λ i. seat (suc i)) rest m.rest vs
ArgumentsHave bases k seat _ m vs = ⊥

-- each value of an argument by name is of its type and of each type of its seat, under that name
abbrev pub KeywordsHave : Bases → HeapTyping → (seat : List ℕ → Seat) → (before : List (List ℕ)) → (es : Keywords)
    → KeywordsLabels es → List NamedValue → Type 0
KeywordsHave bases k seat before no_keywords m [] = Unit {0}
KeywordsHave bases k seat before (more_keywords parameter value rest) m (a ∷ more) =
    (a.name ≡ parameter.text) × ((HasType bases k (type_of value m.first) a.value
    × HasEach bases k (keyword_seat seat before parameter).into a.value)
    × KeywordsHave bases k seat (parameter.text ∷ before) rest m.rest more)
KeywordsHave bases k seat before _ m more = ⊥

module _ (bases : Bases) {k k' : HeapTyping} (grows : Extends k k') where
  pub arguments_later : (seat : ℕ → Seat) (es : Exprs) (m : ItemsLabels es) (vs : List Value)
      → ArgumentsHave bases k seat es m vs → ArgumentsHave bases k' seat es m vs
  arguments_later seat no_exprs m [] h = tt
  arguments_later seat (more_exprs e rest) m (v ∷ vs) h = (
    (later bases grows (type_of e m.first) v h.0.0, each_later bases grows (seat 0).into v h.0.1),
    arguments_later (λ i. seat (suc i)) rest m.rest vs h.1,
  )
  arguments_later seat no_exprs m (v ∷ vs) h = absurd h
  arguments_later seat (more_exprs e rest) m [] h = absurd h

  pub keywords_later : (seat : List ℕ → Seat) (before : List (List ℕ)) (es : Keywords) (m : KeywordsLabels es)
      (more : List NamedValue) → KeywordsHave bases k seat before es m more
      → KeywordsHave bases k' seat before es m more
  keywords_later seat before no_keywords m [] h = tt
  keywords_later seat before (more_keywords parameter value rest) m (a ∷ more) h = (
    h.0,
    (
      (
        later bases grows (type_of value m.first) a.value h.1.0.0,
        each_later bases grows (keyword_seat seat before parameter).into a.value h.1.0.1,
      ),
      keywords_later seat (parameter.text ∷ before) rest m.rest more h.1.1,
    ),
  )
  keywords_later seat before no_keywords m (a ∷ more) h = absurd h
  keywords_later seat before (more_keywords parameter value rest) m [] h = absurd h

module _ (around : Around) (ctx : Context) (fits : IsContextOf around ctx) (eval : Expr → Step Value)
    (good : GoodEval around ctx eval) (evaluates : (e : Expr) → Evaluates (place_of e) (eval e)) (env : Env) where
  pub arguments_safe : (known : HeapTyping → Type 0) → Stays known → (seat : ℕ → Seat) (es : Exprs) (m : ItemsLabels es)
      → LawfulItems ctx around.declared env seat es m → Covered around (ItemsFind es m) → ItemsKeyed es m
      → IsSafe around env known (eval_all Step free eval es) (λ k vs. ArgumentsHave around.bases k seat es m vs)
  arguments_safe known stays seat no_exprs m law covered keyed = comes_safe around env known (Gives []) _ λ k h. tt
  arguments_safe known stays seat (more_exprs e rest) m law covered keyed =
      let first = λ (k : HeapTyping) (v : Value). HasType around.bases k (type_of e m.first) v
      × HasEach around.bases k (seat 0).into v in
      bind_safe around env known _ _ first _ stays
      (flows_safe around ctx eval good evaluates env known (seat 0).want e m.first (seat 0).into m.flows law.first
      (λ f h. covered f (inr (inl h))) (subst (λ b. FlowsInto b (whole_label e m.first) (seat 0).into m.flows)
      (sym fits.bases) law.flows) (λ f h. covered f (inl h)) keyed.0)
      λ v. bind_safe around env _ _ _ (λ k vs. ArgumentsHave around.bases k (λ i. seat (suc i)) rest m.rest vs) _
      (λ k k' x h. (
        stays k k' x h.0,
        (
          later around.bases x (type_of e m.first) v h.1.0,
          each_later around.bases x (seat 0).into v h.1.1,
        ),
      ))
      (arguments_safe (λ k. known k × first k v)
      (λ k k' x h. (
        stays k k' x h.0,
        (
          later around.bases x (type_of e m.first) v h.1.0,
          each_later around.bases x (seat 0).into v h.1.1,
        ),
      )) (λ i. seat (suc i)) rest m.rest law.rest
      (λ f h. covered f (inr (inr h))) keyed.1)
      λ vs. comes_safe around env _ (Gives (v ∷ vs)) _ λ k h. (h.0.1, h.1)

  pub keywords_safe : (known : HeapTyping → Type 0) → Stays known → (seat : List ℕ → Seat) (before : List (List ℕ))
      (es : Keywords) (m : KeywordsLabels es) → LawfulKeywords ctx around.declared env seat before es m
      → Covered around (KeywordsFind es m) → KeywordsKeyed es m → IsSafe around env known
      (eval_keywords Step free eval es) (λ k more. KeywordsHave around.bases k seat before es m more)
  keywords_safe known stays seat before no_keywords m law covered keyed = comes_safe around env known (Gives []) _
      λ k h. tt
  keywords_safe known stays seat before (more_keywords parameter e rest) m law covered keyed =
      let into = (keyword_seat seat before parameter).into in
      let first = λ (k : HeapTyping) (v : Value). HasType around.bases k (type_of e m.first) v
      × HasEach around.bases k into v in
      bind_safe around env known _ _ first _ stays
      (flows_safe around ctx eval good evaluates env known (keyword_seat seat before parameter).want e m.first into
      m.flows law.first (λ f h. covered f (inr (inl h)))
      (subst (λ b. FlowsInto b (whole_label e m.first) into m.flows) (sym fits.bases) law.flows)
      (λ f h. covered f (inl h)) keyed.0)
      λ v. bind_safe around env _ _ _ (λ k more. KeywordsHave around.bases k seat (parameter.text ∷ before) rest m.rest
      more) _ (λ k k' x h. (
        stays k k' x h.0,
        (
          later around.bases x (type_of e m.first) v h.1.0,
          each_later around.bases x into v h.1.1,
        ),
      ))
      (keywords_safe (λ k. known k × first k v)
      (λ k k' x h. (
        stays k k' x h.0,
        (
          later around.bases x (type_of e m.first) v h.1.0,
          each_later around.bases x into v h.1.1,
        ),
      )) seat (parameter.text ∷ before) rest m.rest law.rest
      (λ f h. covered f (inr (inr h))) keyed.1)
      λ more. comes_safe around env _ (Gives (record { name = parameter.text; value = v } ∷ more)) _ λ k h.
      (refl, (h.0.1, h.1))
