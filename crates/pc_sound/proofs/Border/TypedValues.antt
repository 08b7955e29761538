-- The computed checks of values, heaps and arguments under a heap typing are right.
use Rattle.std.proofs.Common.{◌≡◌, ℕ, zero, suc, List, [], ◌∷◌, length, refl, ap, subst, inl, inr}
use Rattle.std.specs.Prelude.{◌==◌, true, ◌&&◌, not, bytes_eq, Option, Some, None, is_some}
use Rattle.std.specs.Prelude.{slice_get}
use Rattle.std.proofs.lemmas.Bool.{and_parts, or_cases, false≢true, eqb-true}
use Rattle.std.proofs.lemmas.Option.{none-some, same_Some}
use Rattle.std.proofs.lemmas.Slice.Eq.{bytes_eq-Decides}
use Rattle.pc_scope.specs.Resolution.{is_one_of}
use Rattle.pc_types.specs.Tree.{Tree, Trees, Any, Object, Int, Bool, Str, NoneType, Class, ListOf, DictOf, TupleOf}
use Rattle.pc_types.specs.Tree.{Union, end, more, erase}
use Rattle.pc_types.specs.Below.{Bases, Below, same}
use Rattle.pc_types.proofs.Descent.{reaches_below}
use Rattle.pc_class.specs.Facts.{ClassFacts, TypedParameter, class_facts_at}
use Rattle.pc_rules.specs.Calls.{parameter_names}
use Rattle.pc_value.specs.Value.{Value, Values, whole, boolean, string, none, tuple_of, location, no_values}
use Rattle.pc_value.specs.Value.{more_values, DictEntry, Slot, Cell, list_cell, dict_cell, instance_cell, Heap}
use Rattle.pc_machine.specs.Calls.{NamedValue, value_named}
use Rattle.pc_sound.specs.Values.{HeapTyping, Recorded, a_list, a_dict, a_class, Equal, IsList, IsDict, IsInstance}
use Rattle.pc_sound.specs.Values.{HasType, HaveTypes, AllHave, EntriesHave, SlotsHave, CellHas, CellAt, IsWell}
use Rattle.pc_sound.specs.Arguments.{TakesNamed, Fills, AllFor, Suits}
use Rattle.pc_sound.specs.Typed.{is_same_as_tested, is_list_of, is_dict_of, is_instance_of, has_type, have_types, all_have}
use Rattle.pc_sound.specs.Typed.{entries_have, slots_have, cell_has, cells_have, is_well, takes_named, fills, all_for}
use Rattle.pc_sound.specs.Typed.{suits}
use Rattle.pc_sound.proofs.Values.Joins.{same_types}

same_is_equal : (bases : Bases) (s t : Tree) → is_same_as_tested s t ≡ true → Equal bases s t
same_is_equal bases s t e =
    let is : erase s ≡ erase t = same_types (erase s) (erase t) e in
    record {
      to = subst (λ x. Below bases (erase s) x) is same;
      fro = subst (λ x. Below bases x (erase s)) is same;
    }

module _ (bases : Bases) (k : HeapTyping) where
  list_is : (l : ℕ) (t : Tree) (o : Option Recorded) → slice_get k l ≡ o → is_list_of o t ≡ true → IsList bases k l t
  list_is l t (Some (a_list item)) is e = record { item = item; is = is; equal = same_is_equal bases item t e }
  list_is l t (Some (a_dict x y)) is e = absurd (false≢true e)
  list_is l t (Some (a_class c)) is e = absurd (false≢true e)
  list_is l t None is e = absurd (false≢true e)

  dict_is : (l : ℕ) (s t : Tree) (o : Option Recorded) → slice_get k l ≡ o → is_dict_of o s t ≡ true
      → IsDict bases k l s t
  dict_is l s t (Some (a_dict x y)) is e =
      let h = and_parts (is_same_as_tested x s) (is_same_as_tested y t) e in
      record {
        keys = x;
        values = y;
        is = is;
        equal_keys = same_is_equal bases x s h.0;
        equal_values = same_is_equal bases y t h.1;
      }
  dict_is l s t (Some (a_list item)) is e = absurd (false≢true e)
  dict_is l s t (Some (a_class c)) is e = absurd (false≢true e)
  dict_is l s t None is e = absurd (false≢true e)

  instance_is : (l c : ℕ) (o : Option Recorded) → slice_get k l ≡ o → is_instance_of bases o c ≡ true
      → IsInstance bases k l c
  instance_is l c (Some (a_class d)) is e = record { class = d; is = is; below = reaches_below bases d d c e }
  instance_is l c (Some (a_list item)) is e = absurd (false≢true e)
  instance_is l c (Some (a_dict x y)) is e = absurd (false≢true e)
  instance_is l c None is e = absurd (false≢true e)

  mutual
    pub typed : (t : Tree) (v : Value) → has_type bases k t v ≡ true → HasType bases k t v
    typed Any v e = tt
    typed Object v e = tt
    typed Int (whole n) e = tt
    typed Int (boolean b) e = tt
    typed Bool (boolean b) e = tt
    typed Str (string cs) e = tt
    typed NoneType none e = tt
    typed (Class c) (location l) e = instance_is l c (slice_get k l) refl e
    typed (ListOf t) (location l) e = list_is l t (slice_get k l) refl e
    typed (DictOf s t) (location l) e = dict_is l s t (slice_get k l) refl e
    typed (TupleOf ts) (tuple_of vs) e = each_typed ts vs e
    typed (Union a b) v e = elim (or_cases (has_type bases k a v) (has_type bases k b v) e) [
      | inl h ↦ inl (typed a v h)
      | inr h ↦ inr (typed b v h)
    ]
    typed _ _ e = absurd (false≢true e)

    each_typed : (ts : Trees) (vs : Values) → have_types bases k ts vs ≡ true → HaveTypes bases k ts vs
    each_typed end no_values e = tt
    each_typed (more t ts) (more_values v vs) e =
        let h = and_parts (has_type bases k t v) (have_types bases k ts vs) e in (typed t v h.0, each_typed ts vs h.1)
    each_typed _ _ e = absurd (false≢true e)

  -- ---- heaps

  items_typed : (t : Tree) (vs : List Value) → all_have bases k t vs ≡ true → AllHave bases k t vs
  items_typed t [] e = tt
  items_typed t (v ∷ vs) e =
      let h = and_parts (has_type bases k t v) (all_have bases k t vs) e in (typed t v h.0, items_typed t vs h.1)

  entries_typed : (s t : Tree) (es : List DictEntry) → entries_have bases k s t es ≡ true → EntriesHave bases k s t es
  entries_typed s t [] e = tt
  entries_typed s t (x ∷ es) e =
      let h = and_parts (has_type bases k s x.key) (has_type bases k t x.value && entries_have bases k s t es) e in
      let g = and_parts (has_type bases k t x.value) (entries_have bases k s t es) h.1 in
      (typed s x.key h.0, typed t x.value g.0, entries_typed s t es g.1)

  slots_typed : (fs : List TypedParameter) (ss : List Slot) → slots_have bases k fs ss ≡ true → SlotsHave bases k fs ss
  slots_typed [] [] e = tt
  slots_typed (f ∷ fs) (s ∷ ss) e =
      let h = and_parts (bytes_eq s.name f.name) (has_type bases k f.type s.value && slots_have bases k fs ss) e in
      let g = and_parts (has_type bases k f.type s.value) (slots_have bases k fs ss) h.1 in
      ((bytes_eq-Decides s.name f.name).0 h.0, typed f.type s.value g.0, slots_typed fs ss g.1)
  slots_typed [] (s ∷ ss) e = absurd (false≢true e)
  slots_typed (f ∷ fs) [] e = absurd (false≢true e)

  module _ (classes : List ClassFacts) where
    cell_typed : (r : Recorded) (c : Cell) → cell_has bases classes k r c ≡ true → CellHas bases classes k r c
    cell_typed (a_list t) (list_cell items) e = items_typed t items e
    cell_typed (a_dict s t) (dict_cell entries) e = entries_typed s t entries e
    cell_typed (a_class c) (instance_cell d slots) e =
        let h = and_parts (d == c) (slots_have bases k (class_facts_at classes c).fields slots) e in
        (eqb-true d c h.0, slots_typed (class_facts_at classes c).fields slots h.1)
    cell_typed (a_list t) (dict_cell entries) e = absurd (false≢true e)
    cell_typed (a_list t) (instance_cell d slots) e = absurd (false≢true e)
    cell_typed (a_dict s t) (list_cell items) e = absurd (false≢true e)
    cell_typed (a_dict s t) (instance_cell d slots) e = absurd (false≢true e)
    cell_typed (a_class c) (list_cell items) e = absurd (false≢true e)
    cell_typed (a_class c) (dict_cell entries) e = absurd (false≢true e)

    cells_long : (rs : List Recorded) (cs : List Cell) → cells_have bases classes k rs cs ≡ true
        → length rs ≡ length cs
    cells_long [] [] e = refl
    cells_long (r ∷ rs) (c ∷ cs) e = ap suc (cells_long rs cs (and_parts (cell_has bases classes k r c)
        (cells_have bases classes k rs cs) e).1)
    cells_long [] (c ∷ cs) e = absurd (false≢true e)
    cells_long (r ∷ rs) [] e = absurd (false≢true e)

    cell_at : (rs : List Recorded) (cs : List Cell) → cells_have bases classes k rs cs ≡ true → (l : ℕ) (r : Recorded)
        → slice_get rs l ≡ Some r → CellAt bases classes k cs l r
    cell_at [] cs e l r at = absurd (none-some _ at)
    cell_at (x ∷ rs) [] e l r at = absurd (false≢true e)
    cell_at (x ∷ rs) (c ∷ cs) e zero r at = record {
      cell = c;
      is = refl;
      has = subst (λ y. CellHas bases classes k y c) (same_Some _ _ at)
          (cell_typed x c (and_parts (cell_has bases classes k x c) (cells_have bases classes k rs cs) e).0);
    }
    cell_at (x ∷ rs) (c ∷ cs) e (suc l) r at =
        let h = cell_at rs cs (and_parts (cell_has bases classes k x c) (cells_have bases classes k rs cs) e).1 l r
        at in
        record { cell = h.cell; is = h.is; has = h.has }

    -- a heap that is told well typed is
    pub well : (heap : Heap) → is_well bases classes k heap ≡ true → IsWell bases classes k heap
    well heap e = record { long = cells_long k heap e; each = λ l r at. cell_at k heap e l r at }

  -- ---- arguments

  takes : (p : TypedParameter) (o : Option Value) → takes_named bases k p o ≡ true → TakesNamed bases k p o
  takes p (Some w) e = typed p.type w e
  takes p None e = e

  not_there : (o : Option Value) → not (is_some o) ≡ true → o ≡ None
  not_there None e = refl
  not_there (Some v) e = absurd (false≢true e)

  filled : (ps : List TypedParameter) (vs : List Value) (named : List NamedValue) → fills bases k ps vs named ≡ true
      → Fills bases k ps vs named
  filled [] [] named e = tt
  filled [] (v ∷ vs) named e = absurd (false≢true e)
  filled (p ∷ ps) (v ∷ vs) named e =
      let h = and_parts (has_type bases k p.type v) (not (is_some (value_named p.name named))
      && fills bases k ps vs named) e in
      let g = and_parts (not (is_some (value_named p.name named))) (fills bases k ps vs named) h.1 in
      (typed p.type v h.0, (not_there (value_named p.name named) g.0, filled ps vs named g.1))
  filled (p ∷ ps) [] named e =
      let h = and_parts (takes_named bases k p (value_named p.name named)) (fills bases k ps [] named) e in
      (takes p (value_named p.name named) h.0, filled ps [] named h.1)

  for_each : (named : List NamedValue) (ps : List TypedParameter) → all_for named ps ≡ true → AllFor named ps
  for_each [] ps e = tt
  for_each (a ∷ rest) ps e =
      let h = and_parts (is_one_of a.name (parameter_names ps)) (all_for rest ps) e in (h.0, for_each rest ps h.1)

  -- arguments that are told to suit do
  pub suited : (ps : List TypedParameter) (vs : List Value) (named : List NamedValue) → suits bases k ps vs named ≡ true
      → Suits bases k ps vs named
  suited ps vs named e =
      let h = and_parts (fills bases k ps vs named) (all_for named ps) e in
      record { fills = filled ps vs named h.0; all_for = for_each named ps h.1 }
