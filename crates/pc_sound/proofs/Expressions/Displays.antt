-- Displays: tuples, lists and dicts are made of values of the types in their labels.
use Rattle.std.proofs.Common.{◌≡◌, ℕ, suc, List, [], ◌∷◌, refl, sym, ap, ◌∙◌, subst, inl, inr, arith}
use Rattle.std.specs.Prelude.{Bool as Test, true, false, if◌then◌else◌, nat_le, Option, Some, None, All}
use Rattle.pc_source.specs.declared.place.Place.{Place}
use Rattle.pc_tree.specs.declared.code.Code.TheVariants.{E26}
use Rattle.pc_tree.specs.Tree.{Expr, Exprs, Entries, tuple, list, dict, no_exprs, more_exprs, no_entries, more_entries}
use Rattle.pc_tree.specs.Depth.{place_of}
use Rattle.pc_types.specs.Tree.{Tree, Any, Int, Str, ListOf, DictOf, TupleOf}
use Rattle.pc_types.specs.Below.{Bases, Static}
use Rattle.pc_types.specs.Normal.{IsKey}
use Rattle.pc_types.specs.Shape.{nodes, node_limit, trees}
use Rattle.pc_flow.specs.Environment.{Env, join_all}
use Rattle.pc_rules.specs.Operations.{Label, clean, in_error, display_label}
use Rattle.pc_rules.specs.Context.{Context, FlowsInto}
use Rattle.pc_rules.specs.Calls.{Seat, nowhere, count_exprs}
use Rattle.pc_rules.specs.Labels.{Labels, ItemsLabels, EntriesLabels, whole_label, type_of, item_types, key_types}
use Rattle.pc_rules.specs.Labels.{value_types, Finds, ItemsFind, EntriesFind}
use Rattle.pc_rules.specs.Lawful.{Lawful, LawfulItems, LawfulEntries, KeyValue, list_item, dict_parts, tuple_parts}
use Rattle.pc_rules.specs.Lawful.{members_of_expected, item_seat, part_seat, list_label, DictLabel, no_keys, int_keys}
use Rattle.pc_rules.specs.Lawful.{str_keys, other_keys, DictRule, key_seat, value_seat}
use Rattle.pc_value.specs.Value.{Value, DictEntry, Gives, tuple_of, values_of}
use Rattle.pc_value.specs.Actions as action
use Rattle.pc_value.specs.Outcomes.{action_result}
use Rattle.pc_machine.specs.Steps.{Parts}
use Rattle.pc_machine.specs.Evaluation.{eval_all, eval_entries, eval_node}
use Rattle.pc_machine.specs.Free.{Step, free}
use Rattle.pc_sound.specs.Values.{HeapTyping, HasType, HaveTypes, AllHave, EntriesHave, Extends}
use Rattle.pc_sound.specs.KeptHeaps.{ActsWell}
use Rattle.pc_sound.proofs.Steps.Judgment.{Around, IsSafe, IsContextOf}
use Rattle.pc_sound.proofs.Lists.{not_empty}
use Rattle.pc_sound.proofs.Values.ValuesFlow.{of_static, later}
use Rattle.pc_sound.proofs.Values.Narrowing.{HasSome}
use Rattle.pc_sound.proofs.Values.Joins.{all_hold}
use Rattle.pc_sound.proofs.Heap.Heaps.{list_keeps}
use Rattle.pc_sound.proofs.Heap.Dicts.{dict_keeps}
use Rattle.pc_sound.proofs.Steps.SafeSteps.{Stays, bind_safe, comes_safe, emits_safe}
use Rattle.pc_sound.proofs.Regular.KeyedLabels.{IsKeyed, Keyed, ItemsKeyed, EntriesKeyed}
use Rattle.pc_sound.proofs.Expressions.SimpleExpressions.{Covered, GoodEval, allowed}
use Rattle.pc_sound.proofs.Values.Flows.{Evaluates}
use Rattle.pc_sound.proofs.Values.UnionMembers.{HasEach, each_later}
use Rattle.pc_sound.proofs.Values.SeveralFlows.{flows_safe}
use Rattle.pc_sound.proofs.Calls.Arguments.{ArgumentsHave, arguments_later, arguments_safe}
use Rattle.pc_sound.proofs.Heap.HeapActions.{acting_safe}

-- a display at which nothing is found has its type
display_type : (t : Tree) (m : Label) → m ≡ display_label t → m.codes ≡ [] → m.type ≡ t
display_type t m law found = go (nat_le (nodes t) node_limit) law
  where
    go : (b : Test) → m ≡ (if b then clean t else in_error E26) → m.type ≡ t
    go true e = ap (λ x. x.type) e
    go false e = absurd (not_empty (sym (ap (λ x. x.codes) e) ∙ found))

-- ---- items

module _ (bases : Bases) (k : HeapTyping) where
  -- items are of their types, one by one
  items_have : (seat : ℕ → Seat) (es : Exprs) (m : ItemsLabels es) (vs : List Value)
      → ArgumentsHave bases k seat es m vs → HaveTypes bases k (trees (item_types es m)) (values_of vs)
  items_have seat no_exprs m [] h = tt
  items_have seat no_exprs m (v ∷ vs) h = absurd h
  items_have seat (more_exprs e rest) m [] h = absurd h
  items_have seat (more_exprs e rest) m (v ∷ vs) h = (h.0.0, items_have (λ i. seat (suc i)) rest m.rest vs h.1)

  -- items of a type that has the values of each item's type
  items_all : (seat : ℕ → Seat) (es : Exprs) (m : ItemsLabels es) (t : Tree)
      → ((v : Value) → HasSome bases k (item_types es m) v → HasType bases k t v) → (vs : List Value)
      → ArgumentsHave bases k seat es m vs → AllHave bases k t vs
  items_all seat no_exprs m t f [] h = tt
  items_all seat no_exprs m t f (v ∷ vs) h = absurd h
  items_all seat (more_exprs e rest) m t f [] h = absurd h
  items_all seat (more_exprs e rest) m t f (v ∷ vs) h = (
    f v (inl h.0.0),
    items_all (λ i. seat (suc i)) rest m.rest t
        (λ w x. f w (inr x)) vs h.1,
  )

  -- items that flow into an expected type
  items_into : (t : Tree) (es : Exprs) (m : ItemsLabels es) (vs : List Value)
      → ArgumentsHave bases k (λ i. item_seat (Some t)) es m vs → AllHave bases k t vs
  items_into t no_exprs m [] h = tt
  items_into t no_exprs m (v ∷ vs) h = absurd h
  items_into t (more_exprs e rest) m [] h = absurd h
  items_into t (more_exprs e rest) m (v ∷ vs) h = (h.0.1.0, items_into t rest m.rest vs h.1)

-- ---- entries

-- each key and value is of its expression's type and of each type of its seat
abbrev EntriesMade : Bases → HeapTyping → (key value : Seat) → (es : Entries) → EntriesLabels es → List DictEntry → Type 0
EntriesMade bases k s t no_entries m [] = Unit {0}
EntriesMade bases k s t (more_entries a b rest) m (e ∷ es) =
    ((HasType bases k (type_of a m.key) e.key × HasEach bases k s.into e.key)
    × (HasType bases k (type_of b m.value) e.value × HasEach bases k t.into e.value))
    × EntriesMade bases k s t rest m.rest es
EntriesMade bases k s t _ m es = ⊥

module _ (bases : Bases) {k k' : HeapTyping} (grows : Extends k k') where
  made_later : (s t : Seat) (es : Entries) (m : EntriesLabels es) (made : List DictEntry)
      → EntriesMade bases k s t es m made → EntriesMade bases k' s t es m made
  made_later s t no_entries m [] h = tt
  made_later s t no_entries m (e ∷ made) h = absurd h
  made_later s t (more_entries a b rest) m [] h = absurd h
  made_later s t (more_entries a b rest) m (e ∷ made) h = (
    (
      (later bases grows (type_of a m.key) e.key h.0.0.0, each_later bases grows s.into e.key h.0.0.1),
      (later bases grows (type_of b m.value) e.value h.0.1.0, each_later bases grows t.into e.value h.0.1.1),
    ),
    made_later s t rest m.rest made h.1,
  )

module _ (bases : Bases) (k : HeapTyping) where
  entries_all : (seat seat' : Seat) (es : Entries) (m : EntriesLabels es) (s t : Tree)
      → ((v : Value) → HasSome bases k (key_types es m) v → HasType bases k s v)
      → ((v : Value) → HasSome bases k (value_types es m) v → HasType bases k t v) → (made : List DictEntry)
      → EntriesMade bases k seat seat' es m made → EntriesHave bases k s t made
  entries_all seat seat' no_entries m s t f g [] h = tt
  entries_all seat seat' no_entries m s t f g (e ∷ made) h = absurd h
  entries_all seat seat' (more_entries a b rest) m s t f g [] h = absurd h
  entries_all seat seat' (more_entries a b rest) m s t f g (e ∷ made) h = (
    f e.key (inl h.0.0.0),
    g e.value (inl h.0.1.0),
    entries_all seat seat' rest m.rest s t (λ w x. f w (inr x))
        (λ w x. g w (inr x)) made h.1,
  )

  entries_into : (s t : Tree) (es : Entries) (m : EntriesLabels es) (made : List DictEntry)
      → EntriesMade bases k (item_seat (Some s)) (item_seat (Some t)) es m made → EntriesHave bases k s t made
  entries_into s t no_entries m [] h = tt
  entries_into s t no_entries m (e ∷ made) h = absurd h
  entries_into s t (more_entries a b rest) m [] h = absurd h
  entries_into s t (more_entries a b rest) m (e ∷ made) h = (
    h.0.0.1.0,
    h.0.1.1.0,
    entries_into s t rest m.rest made
        h.1,
  )

  -- a value of a type among types that are all static to one
  static_some : (t : Tree) (ts : List Tree) → All (λ u. Static bases u t) ts → (v : Value) → HasSome bases k ts v
      → HasType bases k t v
  static_some t [] all v h = absurd h
  static_some t (u ∷ us) all v h = elim h [
    | inl a ↦ of_static bases k u t (all 0 u (omega arith)) v a
    | inr b ↦ static_some t us (λ i d l. all (suc i) d (omega arith)) v b
  ]

-- ---- displays

module _ (around : Around) (ctx : Context) (fits : IsContextOf around ctx) (parts : Parts Step)
    (good : GoodEval around ctx parts.eval) (evaluates : (e : Expr) → Evaluates (place_of e) (parts.eval e))
    (env : Env) where
  abbrev Safe : {A : Type 0} → (HeapTyping → Type 0) → Step A → (HeapTyping → A → Type 0) → Type 0
  Safe known m P = IsSafe around env known m P

  items_safe : (seat : ℕ → Seat) (es : Exprs) (m : ItemsLabels es) → LawfulItems ctx around.declared env seat es m
      → Covered around (ItemsFind es m) → ItemsKeyed es m → Safe (λ k. Unit {0}) (eval_all Step free parts.eval es)
      (λ k vs. ArgumentsHave around.bases k seat es m vs)
  items_safe seat es m law covered keyed = arguments_safe around ctx fits parts.eval good evaluates env (λ k. Unit {0})
      (λ k k' x h. tt) seat es m law covered keyed

  pub tuple_safe : (want : Option Tree) (p : Place) (es : Exprs) (m : Labels (tuple p es))
      → Lawful ctx around.declared env want (tuple p es) m → Covered around (Finds (tuple p es) m)
      → Keyed (tuple p es) m → Safe (λ k. Unit {0}) (eval_node Step free parts (tuple p es))
      (λ k v. HasType around.bases k m.here.type v)
  tuple_safe want p es m law covered keyed =
      let seat = part_seat (tuple_parts (count_exprs es) (members_of_expected want)) in
      bind_safe around env _ _ _ (λ k vs. ArgumentsHave around.bases k seat es m.items vs) _ (λ k k' x h. tt)
      (items_safe seat es m.items law.items (λ f h. covered f (inr h)) keyed.1)
      λ vs. bind_safe around env _ _ _ (λ k u. m.here.codes ≡ []) _
      (λ k k' x h. (tt, arguments_later around.bases x seat es m.items vs h.1))
      (emits_safe around env _ p m.here.codes (allowed around p m.here.codes (λ f h. covered f (inl h))))
      λ u. comes_safe around env _ (Gives (tuple_of (values_of vs))) _ λ k h.
      subst (λ t. HasType around.bases k t (tuple_of (values_of vs)))
      (sym (display_type (TupleOf (trees (item_types es m.items))) m.here law.here h.1))
      (items_have around.bases k seat es m.items vs h.0.1)

  -- the items of a new list
  list_have : (o : Option Tree) (es : Exprs) (m : ItemsLabels es) (here : Label)
      → here ≡ list_label around.bases o (item_types es m) → here.codes ≡ [] → (k : HeapTyping) (vs : List Value)
      → ArgumentsHave around.bases k (λ i. item_seat o) es m vs → (t : Tree) × (here.type ≡ ListOf t)
      × AllHave around.bases k t vs
  list_have (Some t) es m here law found k vs h = (t, ap (λ x. x.type) law, items_into around.bases k t es m vs h)
  list_have None no_exprs m here law found k vs h = (
    Any,
    display_type (ListOf Any) here law found,
    items_all around.bases k (λ i. item_seat None) no_exprs m Any (λ v x. tt) vs h,
  )
  list_have None (more_exprs e rest) m here law found k vs h =
      let ts = item_types (more_exprs e rest) m in (
        join_all around.bases ts,
        display_type (ListOf (join_all around.bases ts)) here law found,
        items_all around.bases k (λ i. item_seat None) (more_exprs e rest) m (join_all around.bases ts)
            (λ v x. all_hold around.bases fits.smaller k ts v x) vs h,
      )

  pub list_safe : (want : Option Tree) (p : Place) (es : Exprs) (m : Labels (list p es))
      → Lawful ctx around.declared env want (list p es) m → Covered around (Finds (list p es) m) → Keyed (list p es) m
      → Safe (λ k. Unit {0}) (eval_node Step free parts (list p es)) (λ k v. HasType around.bases k m.here.type v)
  list_safe want p es m law covered keyed =
      let o = list_item (members_of_expected want) in
      let seat = λ (i : ℕ). item_seat o in
      bind_safe around env _ _ _ (λ k vs. ArgumentsHave around.bases k seat es m.items vs) _ (λ k k' x h. tt)
      (items_safe seat es m.items law.items (λ f h. covered f (inr h)) keyed.1)
      λ vs. bind_safe around env _ _ _ (λ k u. m.here.codes ≡ []) _
      (λ k k' x h. (tt, arguments_later around.bases x seat es m.items vs h.1))
      (emits_safe around env _ p m.here.codes (allowed around p m.here.codes (λ f h. covered f (inl h))))
      λ u. acting_safe around env _ (action.new_list vs) m.here.type λ f k s h st.
      let l = list_have o es m.items m.here (law.here ∙ ap (λ b. list_label b o (item_types es m.items))
      (sym fits.bases)) h.1 k vs h.0.1 in
      subst (λ t. ActsWell around.bases around.classes k t (action_result f (action.new_list vs) s.heap)) (sym l.1)
      (list_keeps around.bases around.classes k s.heap l.0 vs st.well l.2)

  -- ---- dicts

  abbrev Sits : Seat → (e : Expr) → Labels e → HeapTyping → Value → Type 0
  Sits s e m k v = HasType around.bases k (type_of e m) v × HasEach around.bases k s.into v

  sits_later : (s : Seat) (e : Expr) (m : Labels e) (k k' : HeapTyping) → Extends k k' → (v : Value) → Sits s e m k v
      → Sits s e m k' v
  sits_later s e m k k' x v h = (later around.bases x (type_of e m) v h.0, each_later around.bases x s.into v h.1)

  entries_safe : (known : HeapTyping → Type 0) → Stays known → (s t : Seat) (es : Entries) (m : EntriesLabels es)
      → LawfulEntries ctx around.declared env s t es m → Covered around (EntriesFind es m) → EntriesKeyed es m
      → Safe known (eval_entries Step free parts.eval es) (λ k made. EntriesMade around.bases k s t es m made)
  entries_safe known stays s t no_entries m law covered keyed = comes_safe around env known (Gives []) _ λ k h. tt
  entries_safe known stays s t (more_entries a b rest) m law covered keyed =
      bind_safe around env known _ _ (λ k v. Sits s a m.key k v) _ stays
      (flows_safe around ctx parts.eval good evaluates env known s.want a m.key s.into m.key_flows law.key
      (λ f h. covered f (inl (inr h))) (subst (λ d. FlowsInto d (whole_label a m.key) s.into m.key_flows)
      (sym fits.bases) law.key_flows) (λ f h. covered f (inl (inl h))) keyed.0)
      λ v. bind_safe around env _ _ _ (λ k w. Sits t b m.value k w) _
      (λ k k' x h. (stays k k' x h.0, sits_later s a m.key k k' x v h.1))
      (flows_safe around ctx parts.eval good evaluates env _ t.want b m.value t.into m.value_flows law.value
      (λ f h. covered f (inr (inl (inr h)))) (subst (λ d. FlowsInto d (whole_label b m.value) t.into m.value_flows)
      (sym fits.bases) law.value_flows) (λ f h. covered f (inr (inl (inl h)))) keyed.1.0)
      λ w. bind_safe around env _ _ _ (λ k made. EntriesMade around.bases k s t rest m.rest made) _
      (λ k k' x h. ((stays k k' x h.0.0, sits_later s a m.key k k' x v h.0.1), sits_later t b m.value k k' x w h.1))
      (entries_safe (λ k. (known k × Sits s a m.key k v) × Sits t b m.value k w)
      (λ k k' x h. ((stays k k' x h.0.0, sits_later s a m.key k k' x v h.0.1), sits_later t b m.value k k' x w h.1))
      s t rest m.rest law.rest (λ f h. covered f (inr (inr h))) keyed.1.1)
      λ made. comes_safe around env _ (Gives (record { key = v; value = w } ∷ made)) _ λ k h. ((h.0.0.1, h.0.1), h.1)

  -- the entries of a new dict
  record DictMade (here : Label) (k : HeapTyping) (made : List DictEntry) : Type 0 where
    key_type : Tree
    value_type : Tree
    is : here.type ≡ DictOf key_type value_type
    keyed : IsKey key_type
    have : EntriesHave around.bases k key_type value_type made

  by_keys : (es : Entries) (m : EntriesLabels es) (keys : List Tree) (here : Label)
      → DictLabel around.bases (value_types es m) keys here → keys ≡ key_types es m → here.codes ≡ []
      → (k : HeapTyping) (made : List DictEntry) → EntriesMade around.bases k nowhere nowhere es m made
      → DictMade here k made
  by_keys es m _ _ no_keys is found k made h = absurd (not_empty found)
  by_keys es m _ _ (other_keys no_int no_str) is found k made h = absurd (not_empty found)
  by_keys es m ks _ (int_keys all) is found k made h = record {
    key_type = Int;
    value_type = join_all around.bases (value_types es m);
    is = display_type (DictOf Int (join_all around.bases (value_types es m))) _ refl found;
    keyed = tt;
    have = entries_all around.bases k nowhere nowhere es m Int (join_all around.bases (value_types es m))
        (λ v x. static_some around.bases k Int (key_types es m) (subst (λ ts. All (λ u. Static around.bases u Int) ts)
        is all) v x) (λ v x. all_hold around.bases fits.smaller k (value_types es m) v x) made h;
  }
  by_keys es m ks _ (str_keys no_int all) is found k made h = record {
    key_type = Str;
    value_type = join_all around.bases (value_types es m);
    is = display_type (DictOf Str (join_all around.bases (value_types es m))) _ refl found;
    keyed = tt;
    have = entries_all around.bases k nowhere nowhere es m Str (join_all around.bases (value_types es m))
        (λ v x. static_some around.bases k Str (key_types es m) (subst (λ ts. All (λ u. Static around.bases u Str) ts)
        is all) v x) (λ v x. all_hold around.bases fits.smaller k (value_types es m) v x) made h;
  }

  dict_made : (o : Option KeyValue) (es : Entries) (m : EntriesLabels es) (here : Label)
      → DictRule around.bases o (key_types es m) (value_types es m) here → IsKeyed here.type → here.codes ≡ []
      → (k : HeapTyping) (made : List DictEntry) → EntriesMade around.bases k (key_seat o) (value_seat o) es m made
      → DictMade here k made
  dict_made (Some kv) es m here law keyed found k made h = record {
    key_type = kv.key;
    value_type = kv.value;
    is = ap (λ x. x.type) law;
    keyed = (subst IsKeyed (ap (λ x. x.type) law) keyed).0;
    have = entries_into around.bases k kv.key kv.value es m made h;
  }
  dict_made None es m here law keyed found k made h = by_keys es m (key_types es m) here law refl found k made h

  pub dict_safe : (want : Option Tree) (p : Place) (es : Entries) (m : Labels (dict p es))
      → Lawful ctx around.declared env want (dict p es) m → Covered around (Finds (dict p es) m) → Keyed (dict p es) m
      → Safe (λ k. Unit {0}) (eval_node Step free parts (dict p es)) (λ k v. HasType around.bases k m.here.type v)
  dict_safe want p es m law covered keyed =
      let o = dict_parts (members_of_expected want) in
      bind_safe around env _ _ _ (λ k made. EntriesMade around.bases k (key_seat o) (value_seat o) es m.entries made) _
      (λ k k' x h. tt) (entries_safe (λ k. Unit {0}) (λ k k' x h. tt) (key_seat o) (value_seat o) es m.entries
      law.entries (λ f h. covered f (inr h)) keyed.1)
      λ made. bind_safe around env _ _ _ (λ k u. m.here.codes ≡ []) _
      (λ k k' x h. (tt, made_later around.bases x (key_seat o) (value_seat o) es m.entries made h.1))
      (emits_safe around env _ p m.here.codes (allowed around p m.here.codes (λ f h. covered f (inl h))))
      λ u. acting_safe around env _ (action.new_dict made) m.here.type λ f k s h st.
      let d = dict_made o es m.entries m.here
      (subst (λ b. DictRule b o (key_types es m.entries) (value_types es m.entries) m.here) (sym fits.bases)
      law.here) keyed.0 h.1 k made h.0.1 in
      subst (λ t. ActsWell around.bases around.classes k t (action_result f (action.new_dict made) s.heap)) (sym d.is)
      (dict_keeps around.bases around.classes k s.heap d.key_type d.value_type made d.keyed st.well d.have)
