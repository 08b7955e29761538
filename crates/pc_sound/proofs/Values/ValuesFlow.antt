-- A value goes wherever its type is static to.
use Rattle.std.proofs.Common.{◌≡◌, ℕ, refl, sym, ap, subst, inl, inr, List, [], ◌∷◌}
use Rattle.pc_types.specs.Tree.{Tree, Trees, Any, Object, Never, Int, Bool, Str, NoneType, Class, ListOf, DictOf}
use Rattle.pc_types.specs.Tree.{TupleOf, Union, end, more, erase, erase_each}
use Rattle.pc_types.specs.Below.{Bases, Below, EachBelow, Static, same, through, never, object, bool_int, base, left}
use Rattle.pc_types.specs.Below.{right, both, tuple, list, dict, none, one}
use Rattle.pc_value.specs.Value as value
use Rattle.pc_value.specs.Value.{Value, Values, whole, boolean, string, tuple_of, location, no_values, more_values}
use Rattle.pc_sound.specs.Values.{HeapTyping, Extends, Equal, IsList, IsDict, HasType, HaveTypes, AllHave}

abbrev mutual
  pub erase_twice : (t : Tree) → erase (erase t) ≡ erase t
  erase_twice (ListOf t) = ap ListOf (erase_twice t)
  erase_twice (DictOf s t) = λ i. DictOf (erase_twice s i) (erase_twice t i)
  erase_twice (TupleOf ts) = ap TupleOf (erase_each_twice ts)
  erase_twice (Union s t) = λ i. Union (erase_twice s i) (erase_twice t i)
  erase_twice Any = refl
  erase_twice Object = refl
  erase_twice Never = refl
  erase_twice Int = refl
  erase_twice Bool = refl
  erase_twice Str = refl
  erase_twice NoneType = refl
  erase_twice (Class c) = refl

  pub erase_each_twice : (ts : Trees) → erase_each (erase_each ts) ≡ erase_each ts
  erase_each_twice end = refl
  erase_each_twice (more t ts) = λ i. more (erase_twice t i) (erase_each_twice ts i)

module _ {bases : Bases} where
  mutual
    pub erase_below : {s t : Tree} → Below bases s t → Below bases (erase s) (erase t)
    erase_below same = same
    erase_below (through a b) = through (erase_below a) (erase_below b)
    erase_below never = never
    erase_below object = object
    erase_below bool_int = bool_int
    erase_below (base e) = base e
    erase_below left = left
    erase_below right = right
    erase_below (both a b) = both (erase_below a) (erase_below b)
    erase_below (tuple a) = tuple (erase_each_below a)
    erase_below (list a b) = list (erase_below a) (erase_below b)
    erase_below (dict a b c d) = dict (erase_below a) (erase_below b) (erase_below c) (erase_below d)

    pub erase_each_below : {ss ts : Trees} → EachBelow bases ss ts → EachBelow bases (erase_each ss) (erase_each ts)
    erase_each_below none = none
    erase_each_below (one a b) = one (erase_below a) (erase_each_below b)

  pub equal_through : {r s t : Tree} → Equal bases r s → Equal bases s t → Equal bases r t
  equal_through a b = record { to = through a.to b.to; fro = through b.fro a.fro }

  pub equal_below : {s t : Tree} → Below bases s t → Below bases t s → Equal bases s t
  equal_below a b = record { to = erase_below a; fro = erase_below b }

  pub equal_erase : (t : Tree) → Equal bases t (erase t)
  equal_erase t = record {
    to = subst (Below bases (erase t)) (sym (erase_twice t)) same;
    fro =
        subst (λ u. Below bases u (erase t)) (sym (erase_twice t)) same;
  }

  pub equal_back : {s t : Tree} → Equal bases s t → Equal bases t s
  equal_back e = record { to = e.fro; fro = e.to }

  pub list_through : {k : HeapTyping} {l : ℕ} {s t : Tree} → Equal bases s t → IsList bases k l s → IsList bases k l t
  list_through e h = record { item = h.item; is = h.is; equal = equal_through h.equal e }

  pub dict_through : {k : HeapTyping} {l : ℕ} {s t u v : Tree} → Equal bases s t → Equal bases u v
      → IsDict bases k l s u → IsDict bases k l t v
  dict_through e f h = record {
    keys = h.keys;
    values = h.values;
    is = h.is;
    equal_keys = equal_through h.equal_keys e;
    equal_values = equal_through h.equal_values f;
  }

  module _ (k : HeapTyping) where
    -- a value of a type is one of each type above it
    mutual
      pub of_below : {s t : Tree} → Below bases s t → (v : Value) → HasType bases k s v → HasType bases k t v
      of_below same v h = h
      of_below (through a b) v h = of_below b v (of_below a v h)
      of_below never v h = absurd h
      of_below object v h = tt
      of_below bool_int (boolean b) h = tt
      of_below bool_int _ h = absurd h
      of_below (base e) (location l) h = record { class = h.class; is = h.is; below = through h.below (base e) }
      of_below (base e) _ h = absurd h
      of_below left v h = inl h
      of_below right v h = inr h
      of_below (both a b) v h = elim h [ inl x ↦ of_below a v x | inr y ↦ of_below b v y ]
      of_below (tuple a) (tuple_of vs) h = of_each_below a vs h
      of_below (tuple a) _ h = absurd h
      of_below (list a b) (location l) h = list_through (equal_below a b) h
      of_below (list a b) _ h = absurd h
      of_below (dict a b c d) (location l) h = dict_through (equal_below a b) (equal_below c d) h
      of_below (dict a b c d) _ h = absurd h

      pub of_each_below : {ss ts : Trees} → EachBelow bases ss ts → (vs : Values) → HaveTypes bases k ss vs
          → HaveTypes bases k ts vs
      of_each_below none vs h = h
      of_each_below (one a b) (more_values v vs) h = (of_below a v h.0, of_each_below b vs h.1)
      of_each_below (one a b) no_values h = absurd h

module _ (bases : Bases) (k : HeapTyping) where
  -- a type and the one without Any have the same values
  mutual
    pub to_erased : (t : Tree) (v : Value) → HasType bases k t v → HasType bases k (erase t) v
    to_erased Any v h = tt
    to_erased Object v h = tt
    to_erased Never v h = h
    to_erased Int v h = h
    to_erased Bool v h = h
    to_erased Str v h = h
    to_erased NoneType v h = h
    to_erased (Class c) v h = h
    to_erased (ListOf t) (location l) h = list_through (equal_erase t) h
    to_erased (ListOf t) _ h = absurd h
    to_erased (DictOf s t) (location l) h = dict_through (equal_erase s) (equal_erase t) h
    to_erased (DictOf s t) _ h = absurd h
    to_erased (TupleOf ts) (tuple_of vs) h = to_erased_each ts vs h
    to_erased (TupleOf ts) _ h = absurd h
    to_erased (Union s t) v h = elim h [ inl x ↦ inl (to_erased s v x) | inr y ↦ inr (to_erased t v y) ]

    pub to_erased_each : (ts : Trees) (vs : Values) → HaveTypes bases k ts vs → HaveTypes bases k (erase_each ts) vs
    to_erased_each end vs h = h
    to_erased_each (more t ts) (more_values v vs) h = (to_erased t v h.0, to_erased_each ts vs h.1)
    to_erased_each (more t ts) no_values h = absurd h

  mutual
    pub from_erased : (t : Tree) (v : Value) → HasType bases k (erase t) v → HasType bases k t v
    from_erased Any v h = tt
    from_erased Object v h = tt
    from_erased Never v h = h
    from_erased Int v h = h
    from_erased Bool v h = h
    from_erased Str v h = h
    from_erased NoneType v h = h
    from_erased (Class c) v h = h
    from_erased (ListOf t) (location l) h = list_through (equal_back (equal_erase t)) h
    from_erased (ListOf t) _ h = absurd h
    from_erased (DictOf s t) (location l) h = dict_through (equal_back (equal_erase s)) (equal_back (equal_erase t)) h
    from_erased (DictOf s t) _ h = absurd h
    from_erased (TupleOf ts) (tuple_of vs) h = from_erased_each ts vs h
    from_erased (TupleOf ts) _ h = absurd h
    from_erased (Union s t) v h = elim h [ inl x ↦ inl (from_erased s v x) | inr y ↦ inr (from_erased t v y) ]

    pub from_erased_each : (ts : Trees) (vs : Values) → HaveTypes bases k (erase_each ts) vs → HaveTypes bases k ts vs
    from_erased_each end vs h = h
    from_erased_each (more t ts) (more_values v vs) h = (from_erased t v h.0, from_erased_each ts vs h.1)
    from_erased_each (more t ts) no_values h = absurd h

  pub of_static : (s t : Tree) → Static bases s t → (v : Value) → HasType bases k s v → HasType bases k t v
  of_static s t below v h = from_erased t v (of_below k below v (to_erased s v h))

-- ---- later heap typings

pub extends_refl : (k : HeapTyping) → Extends k k
extends_refl k = record { by = λ l r e. e }

pub extends_through : {k k' k'' : HeapTyping} → Extends k k' → Extends k' k'' → Extends k k''
extends_through a b = record { by = λ l r e. b.by l r (a.by l r e) }

module _ (bases : Bases) {k k' : HeapTyping} (grows : Extends k k') where
  mutual
    pub later : (t : Tree) (v : Value) → HasType bases k t v → HasType bases k' t v
    later Any v h = tt
    later Object v h = tt
    later Never v h = h
    later Int (whole n) h = tt
    later Int (boolean b) h = tt
    later Bool (boolean b) h = tt
    later Str (string cs) h = tt
    later NoneType value.none h = tt
    later (Class c) (location l) h = record { class = h.class; is = grows.by l _ h.is; below = h.below }
    later (ListOf t) (location l) h = record { item = h.item; is = grows.by l _ h.is; equal = h.equal }
    later (DictOf s t) (location l) h = record {
      keys = h.keys;
      values = h.values;
      is = grows.by l _ h.is;
      equal_keys =
          h.equal_keys;
      equal_values = h.equal_values;
    }
    later (TupleOf ts) (tuple_of vs) h = later_each ts vs h
    later (Union s t) v h = elim h [ inl x ↦ inl (later s v x) | inr y ↦ inr (later t v y) ]
    later _ v h = absurd h

    pub later_each : (ts : Trees) (vs : Values) → HaveTypes bases k ts vs → HaveTypes bases k' ts vs
    later_each end no_values h = tt
    later_each (more t ts) (more_values v vs) h = (later t v h.0, later_each ts vs h.1)
    later_each _ vs h = absurd h

-- values of a list keep their type
pub all_later : (bases : Bases) {k k' : HeapTyping} → Extends k k' → (t : Tree) (vs : List Value) → AllHave bases k t vs
    → AllHave bases k' t vs
all_later bases x t [] h = tt
all_later bases x t (v ∷ vs) h = (later bases x t v h.0, all_later bases x t vs h.1)
