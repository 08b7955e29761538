-- Fields of instances: reads and stores are safe, and keep the heap well typed, where each class has its base's fields.
use Rattle.std.proofs.Common.{◌≡◌, ℕ, List, [], ◌∷◌, ◌++◌, map, refl, sym, ap, ◌∙◌, subst, inl, inr}
use Rattle.std.specs.Prelude.{Bool as Test, true, false, if◌then◌else◌, cond, Option, Some, None, slice_get, bytes_eq}
use Rattle.std.proofs.lemmas.Option.{none-some, same_Some}
use Rattle.pc_source.specs.declared.place.Place.{Place}
use Rattle.pc_tree.specs.Tree.{Expr, Name, attribute}
use Rattle.pc_types.specs.Tree.{Tree, Class, NoneType}
use Rattle.pc_types.specs.Below.{Bases, Below, base_of, same}
use Rattle.pc_types.specs.Shape.{members}
use Rattle.pc_types.proofs.Structural.{Chain, here, up, Sub, s_class, sub_of}
use Rattle.pc_class.specs.Facts as facts
use Rattle.pc_class.specs.Facts.{TypedParameter, Method, field_by_name, method_by_name, class_facts_at}
use Rattle.pc_flow.specs.Environment.{Env}
use Rattle.pc_rules.specs.Operations.{offers_label, attribute_found, attribute_member}
use Rattle.pc_rules.specs.Context.{Context}
use Rattle.pc_rules.specs.Labels.{Labels, type_of, Finds}
use Rattle.pc_rules.specs.Lawful.{Lawful}
use Rattle.pc_value.specs.Value.{Value, location, Slot, instance_cell, Heap, seen}
use Rattle.pc_value.specs.Actions as action
use Rattle.pc_value.specs.Texts.{same_text}
use Rattle.pc_value.specs.Containers.{with_new_cell}
use Rattle.pc_value.specs.Attributes.{field_value, with_field, field_outcome, attribute_outcome, store_field}
use Rattle.pc_value.specs.Attributes.{store_attribute_outcome}
use Rattle.pc_machine.specs.Steps.{Parts, value_out}
use Rattle.pc_machine.specs.Evaluation.{eval_node}
use Rattle.pc_machine.specs.Free.{Step, free}
use Rattle.pc_sound.specs.Values.{HeapTyping, HasType, a_class, SlotsHave, IsWell}
use Rattle.pc_sound.specs.KeptHeaps.{ActsWell}
use Rattle.pc_sound.specs.Ends.{EndsWell}
use Rattle.pc_sound.proofs.Steps.Judgment.{Around, IsSafe, IsContextOf}
use Rattle.pc_sound.proofs.Lists.{get_at_end, not_empty, same_text_back}
use Rattle.pc_sound.proofs.Values.ValuesFlow.{later, extends_refl}
use Rattle.pc_sound.proofs.Steps.SafeSteps.{bind_safe, emits_safe, looks_safe, act_safe}
use Rattle.pc_sound.proofs.Regular.KeyedLabels.{Keyed}
use Rattle.pc_sound.proofs.Expressions.SimpleExpressions.{Covered, GoodEval, allowed, part}
use Rattle.pc_sound.proofs.Heap.Heaps.{write_keeps, place_keeps, grown}
use Rattle.pc_sound.proofs.Heap.SeenValues.{SeesInstance, sees_instance}
use Rattle.pc_sound.proofs.Values.UnionMembers.{offers_end}

-- each class has the fields of its base
pub record Inherits (bases : Bases) (classes : List facts.ClassFacts) : Type 0 where
  pub fields : (c b : ℕ) → base_of bases c ≡ Some b → (name : List ℕ) (f : TypedParameter)
      → field_by_name (class_facts_at classes b).fields name ≡ Some f → field_by_name (class_facts_at classes c).fields
      name ≡ Some f

-- a class has the fields of each of its ancestors
fields_down : (bases : Bases) (classes : List facts.ClassFacts) → Inherits bases classes → {c d : ℕ} → Chain bases c d
    → (name : List ℕ) (f : TypedParameter) → field_by_name (class_facts_at classes d).fields name ≡ Some f
    → field_by_name (class_facts_at classes c).fields name ≡ Some f
fields_down bases classes inherits here name f e = e
fields_down bases classes inherits {c} (up {b = b} is p) name f e = inherits.fields c b is name f
    (fields_down bases classes inherits p name f e)

pub fields_below : (bases : Bases) (classes : List facts.ClassFacts) → Inherits bases classes → (c d : ℕ)
    → Below bases (Class c) (Class d) → (name : List ℕ) (f : TypedParameter)
    → field_by_name (class_facts_at classes d).fields name ≡ Some f → field_by_name (class_facts_at classes c).fields
    name ≡ Some f
fields_below bases classes inherits c d below name f e = go (sub_of below)
  where
    go : Sub bases (Class c) (Class d) → field_by_name (class_facts_at classes c).fields name ≡ Some f
    go (s_class p) = fields_down bases classes inherits p name f e

-- ---- texts

-- a slot is tested as its field is
same_test : (name : List ℕ) (s : Slot) (f : TypedParameter) → s.name ≡ f.name
    → same_text s.name name ≡ bytes_eq name f.name
same_test name s f e = ap (λ n. bytes_eq n name) e ∙ same_text_back f.name name

module _ (bases : Bases) (k : HeapTyping) where
  -- the value of a field
  pub record HasField (slots : List Slot) (name : List ℕ) (t : Tree) : Type 0 where
    pub value : Value
    pub is : field_value name slots ≡ Some value
    pub has : HasType bases k t value

  pub has_field : (fs : List TypedParameter) (ss : List Slot) (name : List ℕ) (f : TypedParameter)
      → SlotsHave bases k fs ss → field_by_name fs name ≡ Some f → HasField ss name f.type
  has_field [] ss name f h e = absurd (none-some _ e)
  has_field (g ∷ fs) [] name f h e = absurd h
  has_field (g ∷ fs) (s ∷ ss) name f h e = go (bytes_eq name g.name) refl (same_test name s g h.0) e
      (λ e'. has_field fs ss name f h.2 e')
    where
      go : (x : Test) → bytes_eq name g.name ≡ x → same_text s.name name ≡ bytes_eq name g.name
          → cond x (Some g) (field_by_name fs name) ≡ Some f → (field_by_name fs name ≡ Some f
          → HasField ss name f.type) → HasField (s ∷ ss) name f.type
      go true is test e rest = record {
        value = s.value;
        is = ap (λ x. if x then Some s.value else field_value name ss) (test ∙ is);
        has = subst (λ p. HasType bases k p.type s.value) (same_Some _ _ e) h.1;
      }
      go false is test e rest = let r = rest e in record {
        value = r.value;
        is = ap (λ x. if x then Some s.value else field_value name ss) (test ∙ is) ∙ r.is;
        has = r.has;
      }

  -- the fields after one of them was set
  pub field_set : (fs : List TypedParameter) (ss : List Slot) (name : List ℕ) (f : TypedParameter) (w : Value)
      → SlotsHave bases k fs ss → field_by_name fs name ≡ Some f → HasType bases k f.type w
      → SlotsHave bases k fs (with_field name w ss)
  field_set [] [] name f w h e hw = tt
  field_set [] (s ∷ ss) name f w h e hw = absurd h
  field_set (g ∷ fs) [] name f w h e hw = absurd h
  field_set (g ∷ fs) (s ∷ ss) name f w h e hw = go (bytes_eq name g.name) refl (same_test name s g h.0) e
      (λ e'. field_set fs ss name f w h.2 e' hw)
    where
      go : (x : Test) → bytes_eq name g.name ≡ x → same_text s.name name ≡ bytes_eq name g.name
          → cond x (Some g) (field_by_name fs name) ≡ Some f → (field_by_name fs name ≡ Some f
          → SlotsHave bases k fs (with_field name w ss)) → SlotsHave bases k (g ∷ fs) (with_field name w (s ∷ ss))
      go true is test e rest =
          subst (λ l. SlotsHave bases k (g ∷ fs) l)
          (sym (ap (λ x. if x then record { name = s.name; value = w } ∷ ss else s ∷ with_field name w ss)
          (test ∙ is))) (h.0, subst (λ p. HasType bases k p.type w) (sym (same_Some _ _ e)) hw, h.2)
      go false is test e rest =
          subst (λ l. SlotsHave bases k (g ∷ fs) l)
          (sym (ap (λ x. if x then record { name = s.name; value = w } ∷ ss else s ∷ with_field name w ss)
          (test ∙ is))) (h.0, h.1, rest e)

module _ (bases : Bases) (classes : List facts.ClassFacts) (inherits : Inherits bases classes) (k : HeapTyping)
    (heap : Heap) (well : IsWell bases classes k heap) where
  -- ---- reads

  instance_ends : (l c : ℕ) (name : List ℕ) (f : TypedParameter) (is_method : Test)
      → HasType bases k (Class c) (location l) → field_by_name (class_facts_at classes c).fields name ≡ Some f
      → EndsWell (λ w. HasType bases k f.type w) (value_out (attribute_outcome (seen heap (location l)) name is_method))
  instance_ends l c name f is_method h e =
      let s = sees_instance bases classes k heap well l c h in
      let v = has_field bases k (class_facts_at classes s.class).fields s.slots name f s.have
      (fields_below bases classes inherits s.class c s.below name f e) in
      subst (λ x. EndsWell (λ w. HasType bases k f.type w) (value_out (attribute_outcome x name is_method)))
      (sym s.seen_as)
      (subst (λ o. EndsWell (λ w. HasType bases k f.type w) (value_out (field_outcome o is_method))) (sym v.is) v.has)

  pub attribute_ends : (name : List ℕ) (is_method : Test) (n : Tree) (v : Value) → HasType bases k n v
      → (attribute_member classes name n).found ≡ []
      → EndsWell (λ w. HasType bases k (attribute_member classes name n).gives w)
      (value_out (attribute_outcome (seen heap v) name is_method))
  attribute_ends name is_method (Class c) (location l) h e = go (field_by_name (class_facts_at classes c).fields name)
      (method_by_name (class_facts_at classes c).methods name) refl e
    where
      go : (o : Option TypedParameter) (m : Option Method) → field_by_name (class_facts_at classes c).fields name ≡ o
          → (attribute_found o m).found ≡ [] → EndsWell (λ w. HasType bases k (attribute_found o m).gives w)
          (value_out (attribute_outcome (seen heap (location l)) name is_method))
      go (Some f) m is e = instance_ends l c name f is_method h is
      go None (Some m) is e = absurd (not_empty e)
      go None None is e = absurd (not_empty e)
  attribute_ends name is_method (Class c) _ h e = absurd h
  attribute_ends name is_method _ v h e = absurd (not_empty e)

  -- ---- stores

  -- a field of an instance, set to a value of its type
  pub field_store_keeps : (c : ℕ) (v w : Value) (name : List ℕ) (f : TypedParameter) → HasType bases k (Class c) v
      → field_by_name (class_facts_at classes c).fields name ≡ Some f → HasType bases k f.type w
      → ActsWell bases classes k NoneType (store_attribute_outcome heap (seen heap v) name w)
  field_store_keeps c (location l) w name f h e hw = go (sees_instance bases classes k heap well l c h)
    where
      go : SeesInstance bases classes k heap l c → ActsWell bases classes k NoneType
          (store_attribute_outcome heap (seen heap (location l)) name w)
      go s =
          let found = fields_below bases classes inherits s.class c s.below name f e in
          let v = has_field bases k (class_facts_at classes s.class).fields s.slots name f s.have found in
          subst (λ x. ActsWell bases classes k NoneType (store_attribute_outcome heap x name w)) (sym s.seen_as)
          (subst (λ o. ActsWell bases classes k NoneType (store_field heap l s.class s.slots name w o)) (sym v.is)
          (record {
            typing = k;
            grows = extends_refl k;
            well = write_keeps bases classes k heap l (a_class s.class)
                (instance_cell s.class (with_field name w s.slots)) s.recorded
                (refl, field_set bases k (class_facts_at classes s.class).fields s.slots name f w s.have found hw) well;
            has = tt;
          }))
  field_store_keeps c _ w name f h e hw = absurd h

  -- ---- new instances

  pub instance_keeps : (c : ℕ) (slots : List Slot) → SlotsHave bases k (class_facts_at classes c).fields slots
      → ActsWell bases classes k (Class c) (with_new_cell heap (instance_cell c slots))
  instance_keeps c slots have = record {
    typing = k ++ a_class c ∷ [];
    grows = grown bases classes k (a_class c);
    well = place_keeps bases classes k heap (a_class c) (instance_cell c slots) (refl, have) well;
    has = record {
      class = c;
      is = subst (λ n. slice_get (k ++ a_class c ∷ []) n ≡ Some (a_class c)) well.long
          (get_at_end k (a_class c) []);
      below = same;
    };
  }

module _ (around : Around) (ctx : Context) (fits : IsContextOf around ctx)
    (inherits : Inherits around.bases around.classes) (parts : Parts Step) (good : GoodEval around ctx parts.eval)
    (env : Env) where
  pub attribute_safe : (want : Option Tree) (p : Place) (e : Expr) (field : Name) (m : Labels (attribute p e field))
      → Lawful ctx around.declared env want (attribute p e field) m → Covered around (Finds (attribute p e field) m)
      → Keyed (attribute p e field) m → IsSafe around env (λ k. Unit {0})
      (eval_node Step free parts (attribute p e field)) (λ k v. HasType around.bases k m.here.type v)
  attribute_safe want p e field m law covered keyed =
      let object = type_of e m.object in
      let here : m.here ≡ offers_label around.bases (map (attribute_member around.classes field.text)
      (members object)) =
      subst (λ c. m.here ≡ offers_label around.bases (map (attribute_member c field.text) (members object)))
      (sym fits.classes)
      (subst (λ b. m.here ≡ offers_label b (map (attribute_member ctx.classes field.text) (members object)))
      (sym fits.bases) law.here) in
      bind_safe around env _ _ _ (λ k v. HasType around.bases k object v) _ (λ k k' x h. tt)
      (part around ctx parts good env _ None e m.object law.object (λ f h. covered f (inr h)) keyed.1)
      λ v. bind_safe around env _ _ _ (λ k u. m.here.codes ≡ []) _ (λ k k' x h. (tt, later around.bases x object v h.1))
      (emits_safe around env _ p m.here.codes (allowed around p m.here.codes (λ f h. covered f (inl h))))
      λ u. bind_safe around env _ _ _ (λ k b. Unit {0}) _ (λ k k' x h. ((tt, later around.bases x object v h.0.1), h.1))
      (looks_safe around env _ _ _ λ k s h st. tt)
      λ is_method. act_safe around env _ value_out (action.read_attribute v field.text is_method) _ λ f k s h st. (
        refl,
        offers_end around.bases k fits.smaller m.here (attribute_member around.classes field.text) object v here h.0.1
            h.0.0.1 (value_out (attribute_outcome (seen s.heap v) field.text is_method))
            λ n x found takes. attribute_ends around.bases around.classes inherits k s.heap st.well field.text is_method
            n v x found,
      )
