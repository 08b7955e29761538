-- Stores of items into lists and dicts continue with the next statement, and keep the heap well typed.
use Rattle.std.proofs.Common.{◌≡◌, List, [], ◌∷◌, map, refl, sym, ap, ◌∙◌, subst, inl, inr}
use Rattle.std.specs.Prelude.{◌⊎◌, if◌then◌else◌, flat_map}
use Rattle.pc_source.specs.declared.place.Place.{Place}
use Rattle.pc_tree.specs.Tree.{Expr, to_index, Module}
use Rattle.pc_tree.specs.Depth.{place_of}
use Rattle.pc_types.specs.Tree.{Tree, NoneType, ListOf, DictOf}
use Rattle.pc_types.specs.Below.{Bases}
use Rattle.pc_types.specs.Shape.{members}
use Rattle.pc_class.specs.Facts as facts
use Rattle.pc_flow.specs.Environment.{Env}
use Rattle.pc_rules.specs.Operations.{StoreOffer, store_codes, has_error, store_index_types, stored_types}
use Rattle.pc_rules.specs.Operations.{store_index_member, only_type}
use Rattle.pc_rules.specs.Context.{Context, FlowsInto}
use Rattle.pc_rules.specs.Labels.{FlowLabels, Labels, whole_label, type_of, Finds, IsFlowAt}
use Rattle.pc_module_rules.specs.StatementLabels.{TargetLabels}
use Rattle.pc_module_rules.specs.Statements.{LawfulStore, TargetFinds}
use Rattle.pc_value.specs.Value.{Value, Gives, Heap, seen}
use Rattle.pc_value.specs.Actions as action
use Rattle.pc_value.specs.Containers.{store_outcome}
use Rattle.pc_machine.specs.Steps.{Parts, next}
use Rattle.pc_machine.specs.Evaluation.{assign}
use Rattle.pc_machine.specs.Free.{Step, ◌>>=◌, free}
use Rattle.pc_sound.specs.Values.{HeapTyping, HasType, IsWell}
use Rattle.pc_sound.specs.KeptHeaps.{ActsWell}
use Rattle.pc_sound.proofs.Steps.Judgment.{Around, IsSafe, IsContextOf}
use Rattle.pc_sound.proofs.Lists.{front_empty, not_empty, rest_empty}
use Rattle.pc_sound.proofs.Values.ValuesFlow.{later}
use Rattle.pc_sound.proofs.Values.Narrowing.{HasSome, to_members}
use Rattle.pc_sound.proofs.Heap.Heaps.{store_keeps}
use Rattle.pc_sound.proofs.Heap.Dicts.{dict_store_keeps}
use Rattle.pc_sound.proofs.Steps.SafeSteps.{bind_safe, comes_safe, emits_safe, weaken}
use Rattle.pc_sound.proofs.Regular.KeyedLabels.{IsKeyed, Keyed, keyed_type, keyed_members, TargetKeyed}
use Rattle.pc_sound.proofs.Expressions.SimpleExpressions.{Covered, GoodEval, allowed, part}
use Rattle.pc_sound.proofs.Values.Flows.{Evaluates}
use Rattle.pc_sound.proofs.Values.UnionMembers.{HasEach, each_later, each_left, each_right, AllOf}
use Rattle.pc_sound.proofs.Values.SeveralFlows.{flows_safe}
use Rattle.pc_sound.proofs.Heap.HeapActions.{acting_safe}

module _ (bases : Bases) (k : HeapTyping) where
  -- the member of a type that an object is of, where nothing is found of a store on any
  pub record StoredIn (P : Tree → Type 0) (offer : Tree → StoreOffer) (ms : List Tree) (v : Value) : Type 0 where
    pub member : Tree
    pub known : P member
    pub has : HasType bases k member v
    pub clean : (offer member).found ≡ []
    pub takes : (w : Value) → HasEach bases k (flat_map (λ o. o.takes) (map offer ms)) w
        → HasEach bases k (offer member).takes w
    pub stores : (w : Value) → HasEach bases k (flat_map (λ o. o.stores) (map offer ms)) w
        → HasEach bases k (offer member).stores w

  pub stored_in : (P : Tree → Type 0) (offer : Tree → StoreOffer) (ms : List Tree) (v : Value) → AllOf P ms
      → HasSome bases k ms v → store_codes (map offer ms) ≡ [] → StoredIn P offer ms v
  stored_in P offer [] v known h e = absurd h
  stored_in P offer (m ∷ ms) v known h e = elim h [
    | inl x ↦ record {
      member = m;
      known = known.0;
      has = x;
      clean = front_empty (offer m).found (store_codes (map offer ms)) e;
      takes = λ w t. each_left bases k (offer m).takes (flat_map (λ o. o.takes) (map offer ms)) w t;
      stores = λ w t. each_left bases k (offer m).stores (flat_map (λ o. o.stores) (map offer ms)) w t;
    }
    | inr y ↦ let c = stored_in P offer ms v known.1 y (rest_empty (offer m).found (store_codes (map offer ms)) e) in
        record {
          member = c.member;
          known = c.known;
          has = c.has;
          clean = c.clean;
          takes = λ w t. c.takes w (each_right bases k (offer m).takes (flat_map (λ o. o.takes) (map offer ms)) w t);
          stores = λ w t. c.stores w (each_right bases k (offer m).stores (flat_map (λ o. o.stores) (map offer ms)) w
              t);
        }
  ]

  module _ (classes : List facts.ClassFacts) (heap : Heap) (well : IsWell bases classes k heap) where
    member_keeps : (t : Tree) (v key w : Value) → IsKeyed t → HasType bases k t v → (store_index_member t).found ≡ []
        → HasEach bases k (store_index_member t).takes key → HasEach bases k (store_index_member t).stores w
        → ActsWell bases classes k NoneType (store_outcome heap (seen heap v) (seen heap key) key w)
    member_keeps (ListOf t) v key w keyed h e keys values = store_keeps bases classes k heap t v key w well h keys.0
        values.0
    member_keeps (DictOf s t) v key w keyed h e keys values = dict_store_keeps bases classes k heap s t v key w keyed.0
        well h keys.0 values.0
    member_keeps _ v key w keyed h e keys values = absurd (not_empty e)

    -- a store into an object of a type of which nothing is found
    item_store_keeps : (t : Tree) (v key w : Value) → IsKeyed t → HasType bases k t v
        → store_codes (map store_index_member (members t)) ≡ [] → HasEach bases k
        (store_index_types (map store_index_member (members t))) key
        → HasEach bases k (stored_types (map store_index_member (members t))) w
        → ActsWell bases classes k NoneType (store_outcome heap (seen heap v) (seen heap key) key w)
    item_store_keeps t v key w keyed h found keys values =
        let offers = map store_index_member (members t) in
        let all : store_index_types offers ≡ flat_map (λ o. o.takes) offers =
        ap (λ codes. if has_error codes then [] else flat_map (λ o. o.takes) offers) found in
        let all' : stored_types offers ≡ flat_map (λ o. o.stores) offers =
        ap (λ codes. if has_error codes then [] else flat_map (λ o. o.stores) offers) found in
        let c = stored_in IsKeyed store_index_member (members t) v (keyed_members t keyed) (to_members bases k t v h)
        found in
        member_keeps c.member v key w c.known c.has c.clean (c.takes key (subst (λ l. HasEach bases k l key) all keys))
        (c.stores w (subst (λ l. HasEach bases k l w) all' values))

module _ (around : Around) (ctx : Context) (fits : IsContextOf around ctx) (m : Module) (parts : Parts Step)
    (good : GoodEval around ctx parts.eval) (evaluates : (e : Expr) → Evaluates (place_of e) (parts.eval e))
    (env : Env) where
  -- `e[i] = v`
  pub item_store_safe : (p : Place) (o i : Expr) (target : TargetLabels (to_index p o i)) (e : Expr) (labels : Labels e)
      (flows : FlowLabels) → LawfulStore m ctx around.declared env (to_index p o i) target e labels flows
      → Covered around (λ f. IsFlowAt (place_of e) flows f ⊎ (Finds e labels f
      ⊎ TargetFinds m ctx (to_index p o i) target f)) → Keyed e labels → TargetKeyed (to_index p o i) target
      → IsSafe around env (λ k. Unit {0}) (parts.eval e >>= λ v. assign Step free parts (to_index p o i) v)
      (λ k flow. flow ≡ next)
  item_store_safe p o i target e labels flows law covered keyed target_keyed =
      let object = type_of o target.object in
      let key = type_of i target.key in
      let offers = map store_index_member (members object) in
      let keys = store_index_types offers in
      let values = stored_types offers in
      bind_safe around env _ _ _ (λ k w. HasType around.bases k (type_of e labels) w × HasEach around.bases k values w)
      _ (λ k k' x h. tt)
      (flows_safe around ctx parts.eval good evaluates env _ (only_type offers values) e labels values flows law.value
      (λ f h. covered f (inr (inl h))) (subst (λ b. FlowsInto b (whole_label e labels) values flows)
      (sym fits.bases) law.flow) (λ f h. covered f (inl h)) keyed)
      λ w. bind_safe around env _ _ _ (λ k v. HasType around.bases k object v) _
      (λ k k' x h. (
        tt,
        (
          later around.bases x (type_of e labels) w h.1.0,
          each_later around.bases x values w
              h.1.1,
        ),
      ))
      (part around ctx parts good env _ _ o target.object law.object (λ f h. covered f (inr (inr (inr (inr (inl h))))))
      target_keyed.0)
      λ v. bind_safe around env _ _ _ (λ k j. HasType around.bases k key j × HasEach around.bases k keys j) _
      (λ k k' x h. (
        (tt, (later around.bases x (type_of e labels) w h.0.1.0, each_later around.bases x values w h.0.1.1)),
        later around.bases x object v h.1,
      ))
      (flows_safe around ctx parts.eval good evaluates env _ _ i target.key keys target.key_flows law.key
      (λ f h. covered f (inr (inr (inr (inr (inr h))))))
      (subst (λ b. FlowsInto b (whole_label i target.key) keys target.key_flows) (sym fits.bases) law.key_flow)
      (λ f h. covered f (inr (inr (inr (inl h))))) target_keyed.1)
      λ j. bind_safe around env _ _ _ (λ k u. target.codes ≡ []) _
      (λ k k' x h. (
        (
          (tt, (later around.bases x (type_of e labels) w h.0.0.1.0, each_later around.bases x values w h.0.0.1.1)),
          later around.bases x object v h.0.1,
        ),
        (
          later around.bases x key j h.1.0,
          each_later around.bases x keys j
              h.1.1,
        ),
      ))
      (emits_safe around env _ p target.codes (allowed around p target.codes (λ f h. covered f (inr (inr (inl h))))))
      λ u. bind_safe around env _ _ _ (λ k x. Unit {0}) _ (λ k k' x h. (
        (
          (
            (
              tt,
              (
                later around.bases x (type_of e labels) w h.0.0.0.1.0,
                each_later around.bases x values w
                    h.0.0.0.1.1,
              ),
            ),
            later around.bases x object v h.0.0.1,
          ),
          (
            later around.bases x key j h.0.1.0,
            each_later around.bases x keys j h.0.1.1,
          ),
        ),
        h.1,
      ))
      (weaken_value (acting_safe around env _ (action.store_item v j w) NoneType λ f k s h st. item_store_keeps
      around.bases k around.classes s.heap st.well object v j w (keyed_type o target.object target_keyed.0) h.0.0.1
      (sym law.codes ∙ h.1) h.0.1.1 h.0.0.0.1.1))
      λ x. comes_safe around env _ (Gives next) _ λ k h. refl
    where
      weaken_value : {known : HeapTyping → Type 0} {step : Step Value}
          → IsSafe around env known step (λ k v. HasType around.bases k NoneType v)
          → IsSafe around env known step (λ k v. Unit {0})
      weaken_value {known} {step} h = weaken around env known known step (λ k v. HasType around.bases k NoneType v)
          (λ k v. Unit {0}) (λ k x. x) (λ k v x. tt) h
