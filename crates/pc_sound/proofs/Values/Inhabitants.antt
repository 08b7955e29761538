-- Values of types: some value of each type without Never; and of each type that is neither Any, object, a tuple nor a
-- union a value that is of no type but those to which that type is static.
use Rattle.std.proofs.Common.{◌≡◌, ℕ, sym, ◌∙◌, subst, inl, inr, []}
use Rattle.std.specs.Prelude.{◌⊎◌, false, pos, Some, slice_get}
use Rattle.std.proofs.lemmas.Option.{same_Some}
use Rattle.pc_types.specs.Tree.{Tree, Trees, Any, Object, Never, Int, Bool, Str, NoneType, Class, ListOf, DictOf}
use Rattle.pc_types.specs.Tree.{TupleOf, Union, end, more}
use Rattle.pc_types.specs.Below.{Bases, Below, Static, same, through, object, bool_int, left, right, list, dict}
use Rattle.pc_value.specs.Value.{Value, Values, whole, boolean, string, none, tuple_of, location, no_values}
use Rattle.pc_value.specs.Value.{more_values}
use Rattle.pc_sound.specs.Values.{HeapTyping, a_list, a_dict, a_class, Equal, HasType, HaveTypes}
use Rattle.pc_sound.specs.Needed.{HasNoNever, HaveNoNever}
use Rattle.pc_sound.proofs.Values.Requirements.{required, required_by_each, Records, records_first, records_second}
use Rattle.pc_sound.proofs.Values.Requirements.{place_of}

-- ---- the one type recorded of a location

list_or_class : {t : Tree} {c : ℕ} → a_list t ≡ a_class c → ⊥
list_or_class e = cc

dict_or_class : {s t : Tree} {c : ℕ} → a_dict s t ≡ a_class c → ⊥
dict_or_class e = cc

list_or_dict : {t u v : Tree} → a_list t ≡ a_dict u v → ⊥
list_or_dict e = cc

same_class : {c d : ℕ} → a_class c ≡ a_class d → c ≡ d
same_class e = cc

same_item : {s t : Tree} → a_list s ≡ a_list t → s ≡ t
same_item e = cc

same_keys : {s t u v : Tree} → a_dict s t ≡ a_dict u v → s ≡ u
same_keys e = cc

same_values : {s t u v : Tree} → a_dict s t ≡ a_dict u v → t ≡ v
same_values e = cc

-- ---- values

module _ (bases : Bases) (k : HeapTyping) where
  -- ---- locations

  equal_same : (t : Tree) → Equal bases t t
  equal_same t = record { to = same; fro = same }

  class_there : (c l : ℕ) → slice_get k l ≡ Some (a_class c) → HasType bases k (Class c) (location l)
  class_there c l e = record { class = c; is = e; below = same }

  list_there : (t : Tree) (l : ℕ) → slice_get k l ≡ Some (a_list t) → HasType bases k (ListOf t) (location l)
  list_there t l e = record { item = t; is = e; equal = equal_same t }

  dict_there : (s t : Tree) (l : ℕ) → slice_get k l ≡ Some (a_dict s t) → HasType bases k (DictOf s t) (location l)
  dict_there s t l e = record { keys = s; values = t; is = e; equal_keys = equal_same s; equal_values = equal_same t }

  -- ---- a value of each type

  -- a value of the type
  pub record ValueOf (t : Tree) : Type 0 where
    pub value : Value
    pub has : HasType bases k t value

  -- values of the types
  pub record ValuesOf (ts : Trees) : Type 0 where
    pub values : Values
    pub have : HaveTypes bases k ts values

  mutual
    -- each type without Never has a value, where what it refers to is recorded
    pub any_value : (t : Tree) → HasNoNever t → Records k (required t) → ValueOf t
    any_value Any n r = record { value = none; has = tt }
    any_value Object n r = record { value = none; has = tt }
    any_value Never n r = absurd n
    any_value Int n r = record { value = whole (pos 0); has = tt }
    any_value Bool n r = record { value = boolean false; has = tt }
    any_value Str n r = record { value = string []; has = tt }
    any_value NoneType n r = record { value = none; has = tt }
    any_value (Class c) n r =
        let l = place_of (a_class c) r in
        record { value = location l.place; has = class_there c l.place l.is }
    any_value (ListOf t) n r =
        let l = place_of (a_list t) r in
        record { value = location l.place; has = list_there t l.place l.is }
    any_value (DictOf s t) n r =
        let l = place_of (a_dict s t) r in
        record { value = location l.place; has = dict_there s t l.place l.is }
    any_value (TupleOf ts) n r =
        let vs = any_values ts n r in
        record { value = tuple_of vs.values; has = vs.have }
    any_value (Union a b) n r =
        let v = any_value a n.0 (records_first (required a) (required b) r) in
        record { value = v.value; has = inl v.has }

    -- the parts of a tuple have values of their types
    pub any_values : (ts : Trees) → HaveNoNever ts → Records k (required_by_each ts) → ValuesOf ts
    any_values end n r = record { values = no_values; have = tt }
    any_values (more t ts) n r =
        let v = any_value t n.0 (records_first (required t) (required_by_each ts) r) in
        let vs = any_values ts n.1 (records_second (required t) (required_by_each ts) r) in
        record { values = more_values v.value vs.values; have = (v.has, vs.have) }

  -- ---- telling values

  to_union : (s a b : Tree) → Static bases s a ⊎ Static bases s b → Static bases s (Union a b)
  to_union s a b h = elim h [ inl x ↦ through x left | inr y ↦ through y right ]

  whole_tells : (t : Tree) → HasType bases k t (whole (pos 0)) → Static bases Int t
  whole_tells Any h = object
  whole_tells Object h = object
  whole_tells Int h = same
  whole_tells (Union a b) h =
      to_union Int a b (elim h [ inl x ↦ inl (whole_tells a x) | inr y ↦ inr (whole_tells b y) ])
  whole_tells _ h = absurd h

  boolean_tells : (t : Tree) → HasType bases k t (boolean false) → Static bases Bool t
  boolean_tells Any h = object
  boolean_tells Object h = object
  boolean_tells Int h = bool_int
  boolean_tells Bool h = same
  boolean_tells (Union a b) h =
      to_union Bool a b (elim h [ inl x ↦ inl (boolean_tells a x) | inr y ↦ inr (boolean_tells b y) ])
  boolean_tells _ h = absurd h

  string_tells : (t : Tree) → HasType bases k t (string []) → Static bases Str t
  string_tells Any h = object
  string_tells Object h = object
  string_tells Str h = same
  string_tells (Union a b) h =
      to_union Str a b (elim h [ inl x ↦ inl (string_tells a x) | inr y ↦ inr (string_tells b y) ])
  string_tells _ h = absurd h

  none_tells : (t : Tree) → HasType bases k t none → Static bases NoneType t
  none_tells Any h = object
  none_tells Object h = object
  none_tells NoneType h = same
  none_tells (Union a b) h =
      to_union NoneType a b (elim h [ inl x ↦ inl (none_tells a x) | inr y ↦ inr (none_tells b y) ])
  none_tells _ h = absurd h

  module _ (c l : ℕ) (e : slice_get k l ≡ Some (a_class c)) where
    class_tells : (t : Tree) → HasType bases k t (location l) → Static bases (Class c) t
    class_tells Any h = object
    class_tells Object h = object
    class_tells (Class d) h =
        let are : a_class h.class ≡ a_class c = same_Some _ _ (sym h.is ∙ e) in
        subst (λ x. Below bases (Class x) (Class d)) (same_class are) h.below
    class_tells (ListOf t) h = absurd (list_or_class (same_Some _ _ (sym h.is ∙ e)))
    class_tells (DictOf s t) h = absurd (dict_or_class (same_Some _ _ (sym h.is ∙ e)))
    class_tells (Union a b) h =
        to_union (Class c) a b (elim h [ inl x ↦ inl (class_tells a x) | inr y ↦ inr (class_tells b y) ])
    class_tells _ h = absurd h

  module _ (u : Tree) (l : ℕ) (e : slice_get k l ≡ Some (a_list u)) where
    list_tells : (t : Tree) → HasType bases k t (location l) → Static bases (ListOf u) t
    list_tells Any h = object
    list_tells Object h = object
    list_tells (Class d) h = absurd (list_or_class (same_Some _ _ (sym e ∙ h.is)))
    list_tells (ListOf t) h =
        let are : a_list h.item ≡ a_list u = same_Some _ _ (sym h.is ∙ e) in
        let q : Equal bases u t = subst (λ x. Equal bases x t) (same_item are) h.equal in
        list q.to q.fro
    list_tells (DictOf s t) h = absurd (list_or_dict (same_Some _ _ (sym e ∙ h.is)))
    list_tells (Union a b) h =
        to_union (ListOf u) a b (elim h [ inl x ↦ inl (list_tells a x) | inr y ↦ inr (list_tells b y) ])
    list_tells _ h = absurd h

  module _ (j v : Tree) (l : ℕ) (e : slice_get k l ≡ Some (a_dict j v)) where
    dict_tells : (t : Tree) → HasType bases k t (location l) → Static bases (DictOf j v) t
    dict_tells Any h = object
    dict_tells Object h = object
    dict_tells (Class d) h = absurd (dict_or_class (same_Some _ _ (sym e ∙ h.is)))
    dict_tells (ListOf t) h = absurd (list_or_dict (same_Some _ _ (sym h.is ∙ e)))
    dict_tells (DictOf s t) h =
        let are : a_dict h.keys h.values ≡ a_dict j v = same_Some _ _ (sym h.is ∙ e) in
        let p : Equal bases j s = subst (λ x. Equal bases x s) (same_keys are) h.equal_keys in
        let q : Equal bases v t = subst (λ x. Equal bases x t) (same_values are) h.equal_values in
        dict p.to p.fro q.to q.fro
    dict_tells (Union a b) h =
        to_union (DictOf j v) a b (elim h [ inl x ↦ inl (dict_tells a x) | inr y ↦ inr (dict_tells b y) ])
    dict_tells _ h = absurd h

  -- a value of the type that is of no type but those to which the type is static
  pub record Telling (s : Tree) : Type 0 where
    pub value : Value
    pub has : HasType bases k s value
    pub tells : (t : Tree) → HasType bases k t value → Static bases s t

  pub telling_int : Telling Int
  telling_int = record { value = whole (pos 0); has = tt; tells = whole_tells }

  pub telling_bool : Telling Bool
  telling_bool = record { value = boolean false; has = tt; tells = boolean_tells }

  pub telling_str : Telling Str
  telling_str = record { value = string []; has = tt; tells = string_tells }

  pub telling_none : Telling NoneType
  telling_none = record { value = none; has = tt; tells = none_tells }

  pub telling_class : (c : ℕ) → Records k (required (Class c)) → Telling (Class c)
  telling_class c r =
      let l = place_of (a_class c) r in
      record { value = location l.place; has = class_there c l.place l.is; tells = class_tells c l.place l.is }

  pub telling_list : (u : Tree) → Records k (required (ListOf u)) → Telling (ListOf u)
  telling_list u r =
      let l = place_of (a_list u) r in
      record { value = location l.place; has = list_there u l.place l.is; tells = list_tells u l.place l.is }

  pub telling_dict : (j v : Tree) → Records k (required (DictOf j v)) → Telling (DictOf j v)
  telling_dict j v r =
      let l = place_of (a_dict j v) r in
      record { value = location l.place; has = dict_there j v l.place l.is; tells = dict_tells j v l.place l.is }
