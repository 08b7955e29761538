-- Stores into fields continue with the next statement, and keep the heap well typed.
use Rattle.std.proofs.Common.{◌≡◌, ℕ, List, [], map, refl, sym, ap, ◌∙◌, subst, inl, inr}
use Rattle.std.specs.Prelude.{◌⊎◌, if◌then◌else◌, flat_map, Option, Some, None}
use Rattle.pc_source.specs.declared.place.Place.{Place}
use Rattle.pc_tree.specs.Tree.{Expr, Name, Target, to_name, to_attribute, to_index, Module}
use Rattle.pc_tree.specs.Depth.{place_of}
use Rattle.pc_types.specs.Tree.{Tree, Class, NoneType}
use Rattle.pc_types.specs.Below.{Bases}
use Rattle.pc_types.specs.Shape.{members}
use Rattle.pc_class.specs.Facts as facts
use Rattle.pc_class.specs.Facts.{TypedParameter, Method, field_by_name, method_by_name, class_facts_at}
use Rattle.pc_flow.specs.Environment.{Env}
use Rattle.pc_rules.specs.Operations.{store_codes, has_error, stored_types, store_found, store_attribute_member}
use Rattle.pc_rules.specs.Context.{Context, FlowsInto}
use Rattle.pc_rules.specs.Labels.{FlowLabels, Labels, whole_label, type_of, Finds, IsFlowAt}
use Rattle.pc_module_rules.specs.StatementLabels.{TargetLabels}
use Rattle.pc_module_rules.specs.Statements.{LawfulStore, TargetFinds}
use Rattle.pc_value.specs.Value.{Value, Gives, Heap, seen}
use Rattle.pc_value.specs.Actions as action
use Rattle.pc_value.specs.Attributes.{store_attribute_outcome}
use Rattle.pc_machine.specs.Steps.{Parts, next}
use Rattle.pc_machine.specs.Evaluation.{assign}
use Rattle.pc_machine.specs.Free.{Step, ◌>>=◌, free}
use Rattle.pc_sound.specs.Values.{HeapTyping, HasType, IsWell}
use Rattle.pc_sound.specs.KeptHeaps.{ActsWell}
use Rattle.pc_sound.proofs.Steps.Judgment.{Around, IsSafe, IsContextOf}
use Rattle.pc_sound.proofs.Lists.{not_empty}
use Rattle.pc_sound.proofs.Values.ValuesFlow.{later}
use Rattle.pc_sound.proofs.Values.Narrowing.{to_members}
use Rattle.pc_sound.proofs.Steps.SafeSteps.{bind_safe, comes_safe, emits_safe, weaken}
use Rattle.pc_sound.proofs.Regular.KeyedLabels.{Keyed, TargetKeyed}
use Rattle.pc_sound.proofs.Expressions.SimpleExpressions.{Covered, GoodEval, allowed, part}
use Rattle.pc_sound.proofs.Values.Flows.{Evaluates}
use Rattle.pc_sound.proofs.Values.UnionMembers.{HasEach, each_later, all_any}
use Rattle.pc_sound.proofs.Heap.Fields.{Inherits, field_store_keeps}
use Rattle.pc_sound.proofs.Values.SeveralFlows.{flows_safe}
use Rattle.pc_sound.proofs.Heap.HeapActions.{acting_safe}
use Rattle.pc_sound.proofs.Statements.SimpleStatements.{GoodStores}
use Rattle.pc_sound.proofs.Statements.ItemStores.{stored_in, item_store_safe}

module _ (bases : Bases) (classes : List facts.ClassFacts) (inherits : Inherits bases classes) (k : HeapTyping)
    (heap : Heap) (well : IsWell bases classes k heap) where
  member_keeps : (name : List ℕ) (n : Tree) (v w : Value) → HasType bases k n v
      → (store_attribute_member classes name n).found ≡ [] → HasEach bases k
      (store_attribute_member classes name n).stores w → ActsWell bases classes k NoneType
      (store_attribute_outcome heap (seen heap v) name w)
  member_keeps name (Class c) v w h e takes = go (field_by_name (class_facts_at classes c).fields name)
      (method_by_name (class_facts_at classes c).methods name) refl e takes
    where
      go : (o : Option TypedParameter) (m : Option Method) → field_by_name (class_facts_at classes c).fields name ≡ o
          → (store_found o m).found ≡ [] → HasEach bases k (store_found o m).stores w
          → ActsWell bases classes k NoneType (store_attribute_outcome heap (seen heap v) name w)
      go (Some f) m is e takes = field_store_keeps bases classes inherits k heap well c v w name f h is takes.0
      go None (Some m) is e takes = absurd (not_empty e)
      go None None is e takes = absurd (not_empty e)
  member_keeps name _ v w h e takes = absurd (not_empty e)

  -- a store into a field of an object of a type of which nothing is found
  stored_keeps : (name : List ℕ) (t : Tree) (v w : Value) → HasType bases k t v
      → store_codes (map (store_attribute_member classes name) (members t)) ≡ []
      → HasEach bases k (stored_types (map (store_attribute_member classes name) (members t))) w
      → ActsWell bases classes k NoneType (store_attribute_outcome heap (seen heap v) name w)
  stored_keeps name t v w h found values =
      let offers = map (store_attribute_member classes name) (members t) in
      let all : stored_types offers ≡ flat_map (λ o. o.stores) offers =
      ap (λ codes. if has_error codes then [] else flat_map (λ o. o.stores) offers) found in
      let c = stored_in bases k (λ m. Unit {0}) (store_attribute_member classes name) (members t) v
      (all_any (members t)) (to_members bases k t v h) found in
      member_keeps name c.member v w c.has c.clean (c.stores w (subst (λ l. HasEach bases k l w) all values))

module _ (around : Around) (ctx : Context) (fits : IsContextOf around ctx)
    (inherits : Inherits around.bases around.classes) (m : Module) (parts : Parts Step)
    (good : GoodEval around ctx parts.eval) (evaluates : (e : Expr) → Evaluates (place_of e) (parts.eval e)) where
  -- `e.f = v`
  pub field_store_safe : (env : Env) (p : Place) (o : Expr) (field : Name)
      (target : TargetLabels (to_attribute p o field)) (e : Expr) (labels : Labels e) (flows : FlowLabels)
      → LawfulStore m ctx around.declared env (to_attribute p o field) target e labels flows
      → Covered around (λ f. IsFlowAt (place_of e) flows f ⊎ (Finds e labels f
      ⊎ TargetFinds m ctx (to_attribute p o field) target f)) → Keyed e labels
      → TargetKeyed (to_attribute p o field) target → IsSafe around env (λ k. Unit {0})
      (parts.eval e >>= λ v. assign Step free parts (to_attribute p o field) v) (λ k flow. flow ≡ next)
  field_store_safe env p o field target e labels flows law covered keyed target_keyed =
      let object = type_of o target.object in
      let offers = map (store_attribute_member around.classes field.text) (members object) in
      let values = stored_types offers in
      let codes : target.codes ≡ store_codes offers = law.codes
      ∙ ap (λ c. store_codes (map (store_attribute_member c field.text) (members object))) (sym fits.classes) in
      let flow : FlowsInto around.bases (whole_label e labels) values flows =
      subst (λ c. FlowsInto around.bases (whole_label e labels)
      (stored_types (map (store_attribute_member c field.text) (members object))) flows) (sym fits.classes)
      (subst (λ b. FlowsInto b (whole_label e labels) (stored_types
      (map (store_attribute_member ctx.classes field.text) (members object))) flows) (sym fits.bases) law.flow) in
      bind_safe around env _ _ _ (λ k w. HasType around.bases k (type_of e labels) w × HasEach around.bases k values w)
      _ (λ k k' x h. tt)
      (flows_safe around ctx parts.eval good evaluates env _ _ e labels values flows law.value
      (λ f h. covered f (inr (inl h))) flow (λ f h. covered f (inl h)) keyed)
      λ w. bind_safe around env _ _ _ (λ k v. HasType around.bases k object v) _
      (λ k k' x h. (
        tt,
        (
          later around.bases x (type_of e labels) w h.1.0,
          each_later around.bases x values w
              h.1.1,
        ),
      ))
      (part around ctx parts good env _ _ o target.object law.object (λ f h. covered f (inr (inr (inr h))))
      target_keyed)
      λ v. bind_safe around env _ _ _ (λ k u. target.codes ≡ []) _
      (λ k k' x h. (
        (tt, (later around.bases x (type_of e labels) w h.0.1.0, each_later around.bases x values w h.0.1.1)),
        later around.bases x object v h.1,
      ))
      (emits_safe around env _ p target.codes (allowed around p target.codes (λ f h. covered f (inr (inr (inl h))))))
      λ u. bind_safe around env _ _ _ (λ k x. Unit {0}) _ (λ k k' x h. (
        (
          (tt, (later around.bases x (type_of e labels) w h.0.0.1.0, each_later around.bases x values w h.0.0.1.1)),
          later around.bases x object v h.0.1,
        ),
        h.1,
      ))
      (weaken around env _ _ _ (λ k x. HasType around.bases k NoneType x) (λ k x. Unit {0}) (λ k x. x) (λ k x h. tt)
      (acting_safe around env _ (action.store_attribute v field.text w) NoneType λ f k s h st. stored_keeps around.bases
      around.classes inherits k s.heap st.well field.text object v w h.0.1 (sym codes ∙ h.1) h.0.0.1.1))
      λ x. comes_safe around env _ (Gives next) _ λ k h. refl

  -- the stores of statements
  pub stores_good : GoodStores around m ctx parts
  stores_good = record { stores = go }
    where
      go : (env : Env) (t : Target) (target : TargetLabels t) (e : Expr) (labels : Labels e) (flows : FlowLabels)
          → LawfulStore m ctx around.declared env t target e labels flows
          → Covered around (λ f. IsFlowAt (place_of e) flows f ⊎ (Finds e labels f ⊎ TargetFinds m ctx t target f))
          → Keyed e labels → TargetKeyed t target → IsSafe around env (λ k. Unit {0})
          (parts.eval e >>= λ v. assign Step free parts t v) (λ k flow. flow ≡ next)
      go env (to_name n) target e labels flows law covered keyed target_keyed = absurd law
      go env (to_attribute p o field) target e labels flows law covered keyed target_keyed =
          field_store_safe env p o field target e labels flows law covered keyed target_keyed
      go env (to_index p o i) target e labels flows law covered keyed target_keyed = item_store_safe around ctx fits m
          parts good evaluates env p o i target e labels flows law covered keyed target_keyed
