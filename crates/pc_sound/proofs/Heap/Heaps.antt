-- Aliases: the record of a location never changes, and each action on its cell keeps the heap well typed.
use Rattle.std.proofs.Common.{◌≡◌, ℕ, zero, suc, List, [], ◌∷◌, ◌++◌, length, ◌+◌, refl, sym, ap, ◌∙◌, subst, inl, inr}
use Rattle.std.proofs.Common.{length-append}
use Rattle.std.specs.Prelude.{◌⊎◌, Option, Some, None, slice_get, slice_set}
use Rattle.std.proofs.lemmas.Option.{same_Some}
use Rattle.pc_types.specs.Tree.{Tree, Int, NoneType, ListOf}
use Rattle.pc_types.specs.Below.{Bases, same}
use Rattle.pc_class.specs.Facts.{ClassFacts, TypedParameter, class_facts_at}
use Rattle.pc_value.specs.Value.{Value, whole, boolean, location, Cell, list_cell, dict_cell, instance_cell, Heap}
use Rattle.pc_value.specs.Value.{DictEntry, Slot, seen, seen_cell, number_of_truth}
use Rattle.pc_value.specs.Containers.{with_new_cell, append_outcome, index_among, gives_item, store_outcome, store_at}
use Rattle.pc_sound.specs.Values.{HeapTyping, Recorded, a_list, a_dict, a_class, Extends, HasType, AllHave, EntriesHave}
use Rattle.pc_sound.specs.Values.{SlotsHave, CellHas, CellAt, IsWell}
use Rattle.pc_sound.specs.KeptHeaps.{OutcomeHas, ActsWell}
use Rattle.pc_sound.proofs.Lists.{get_at_end, get_left, get_one_more}
use Rattle.pc_sound.proofs.Values.ValuesFlow.{of_static, later, extends_refl, all_later}

-- ---- lists by place

get_set : {A : Type 0} (xs : List A) (i j : ℕ) (x y : A) → slice_get xs j ≡ Some x
    → ((i ≡ j) × (slice_get (slice_set xs i y) j ≡ Some y)) ⊎ (slice_get (slice_set xs i y) j ≡ Some x)
get_set [] i j x y e = inr e
get_set (z ∷ xs) zero zero x y e = inl (refl, refl)
get_set (z ∷ xs) zero (suc j) x y e = inr e
get_set (z ∷ xs) (suc i) zero x y e = inr e
get_set (z ∷ xs) (suc i) (suc j) x y e = elim (get_set xs i j x y e) [ inl a ↦ inl (ap suc a.0, a.1) | inr b ↦ inr b ]

length-set : {A : Type 0} (xs : List A) (i : ℕ) (y : A) → length (slice_set xs i y) ≡ length xs
length-set [] i y = refl
length-set (x ∷ xs) zero y = refl
length-set (x ∷ xs) (suc i) y = ap suc (length-set xs i y)

-- ---- cells under later heap typings

module _ (bases : Bases) (classes : List ClassFacts) where
  entries_later : {k k' : HeapTyping} → Extends k k' → (s t : Tree) (es : List DictEntry) → EntriesHave bases k s t es
      → EntriesHave bases k' s t es
  entries_later x s t [] h = tt
  entries_later x s t (e ∷ es) h = (later bases x s e.key h.0, later bases x t e.value h.1, entries_later x s t es h.2)

  slots_later : {k k' : HeapTyping} → Extends k k' → (fs : List TypedParameter) (ss : List Slot)
      → SlotsHave bases k fs ss → SlotsHave bases k' fs ss
  slots_later x [] [] h = tt
  slots_later x [] (s ∷ ss) h = h
  slots_later x (f ∷ fs) [] h = h
  slots_later x (f ∷ fs) (s ∷ ss) h = (h.0, later bases x f.type s.value h.1, slots_later x fs ss h.2)

  cell_later : {k k' : HeapTyping} → Extends k k' → (r : Recorded) (c : Cell) → CellHas bases classes k r c
      → CellHas bases classes k' r c
  cell_later x (a_list t) (list_cell items) h = all_later bases x t items h
  cell_later x (a_dict s t) (dict_cell entries) h = entries_later x s t entries h
  cell_later x (a_class c) (instance_cell d slots) h = (h.0, slots_later x (class_facts_at classes c).fields slots h.1)
  cell_later x _ _ h = absurd h

  -- a cell is written over by one of what is recorded there
  pub write_keeps : (k : HeapTyping) (heap : Heap) (l : ℕ) (r : Recorded) (c : Cell) → slice_get k l ≡ Some r
      → CellHas bases classes k r c → IsWell bases classes k heap → IsWell bases classes k (slice_set heap l c)
  write_keeps k heap l r c is has well = record { long = well.long ∙ sym (length-set heap l c); each = each }
    where
      each : (j : ℕ) (q : Recorded) → slice_get k j ≡ Some q → CellAt bases classes k (slice_set heap l c) j q
      each j q e =
          let old = well.each j q e in
          elim (get_set heap l j old.cell c old.is) [
            | inl new ↦ record {
              cell = c;
              is = new.1;
              has = subst (λ x. CellHas bases classes k x c)
                  (same_Some _ _ (sym is ∙ ap (slice_get k) new.0 ∙ e)) has;
            }
            | inr kept ↦ record { cell = old.cell; is = kept; has = old.has }
          ]

  -- a new cell is recorded after all others
  pub grown : (k : HeapTyping) (r : Recorded) → Extends k (k ++ r ∷ [])
  grown k r = record { by = λ l q e. get_left k (r ∷ []) l q e }

  pub place_keeps : (k : HeapTyping) (heap : Heap) (r : Recorded) (c : Cell) → CellHas bases classes k r c
      → IsWell bases classes k heap → IsWell bases classes (k ++ r ∷ []) (heap ++ c ∷ [])
  place_keeps k heap r c has well = record {
    long = length-append k (r ∷ []) ∙ ap (λ n. n + 1) well.long
        ∙ sym (length-append heap (c ∷ []));
    each = each;
  }
    where
      each : (j : ℕ) (q : Recorded) → slice_get (k ++ r ∷ []) j ≡ Some q
          → CellAt bases classes (k ++ r ∷ []) (heap ++ c ∷ []) j q
      each j q e = elim (get_one_more k r j q e) [
        | inl old ↦ let h = well.each j q old in record {
          cell = h.cell;
          is = get_left heap (c ∷ []) j h.cell h.is;
          has = cell_later (grown k r) q h.cell h.has;
        }
        | inr new ↦ record {
          cell = c;
          is = subst (λ n. slice_get (heap ++ c ∷ []) n ≡ Some c) (sym (new.0 ∙ well.long)) (get_at_end heap c []);
          has = cell_later (grown k r) q c (subst (λ x. CellHas bases classes k x c) new.1 has);
        }
      ]

  -- ---- lists

  record ListAt (k : HeapTyping) (heap : Heap) (l : ℕ) (t : Tree) : Type 0 where
    items : List Value
    is : slice_get heap l ≡ Some (list_cell items)
    have : AllHave bases k t items

  list_at : (k : HeapTyping) (heap : Heap) (l : ℕ) (t : Tree) → CellAt bases classes k heap l (a_list t)
      → ListAt k heap l t
  list_at k heap l t at = go at.cell at.is at.has
    where
      go : (c : Cell) → slice_get heap l ≡ Some c → CellHas bases classes k (a_list t) c → ListAt k heap l t
      go (list_cell items) is has = record { items = items; is = is; have = has }
      go (dict_cell entries) is has = absurd has
      go (instance_cell d slots) is has = absurd has

  all_more : (k : HeapTyping) (t : Tree) (vs : List Value) (v : Value) → AllHave bases k t vs → HasType bases k t v
      → AllHave bases k t (vs ++ v ∷ [])
  all_more k t [] v h hv = (hv, tt)
  all_more k t (w ∷ vs) v h hv = (h.0, all_more k t vs v h.1 hv)

  all_set : (k : HeapTyping) (t : Tree) (vs : List Value) (i : ℕ) (v : Value) → AllHave bases k t vs
      → HasType bases k t v → AllHave bases k t (slice_set vs i v)
  all_set k t [] i v h hv = tt
  all_set k t (w ∷ vs) zero v h hv = (hv, h.1)
  all_set k t (w ∷ vs) (suc i) v h hv = (h.0, all_set k t vs i v h.1 hv)

  all_at : (k : HeapTyping) (t : Tree) (vs : List Value) (i : ℕ) → AllHave bases k t vs
      → OutcomeHas bases k t (gives_item (slice_get vs i))
  all_at k t [] i h = tt
  all_at k t (v ∷ vs) zero h = h.0
  all_at k t (v ∷ vs) (suc i) h = all_at k t vs i h.1

  -- one more item, which is of the type that the list was made with
  pub append_keeps : (k : HeapTyping) (heap : Heap) (t : Tree) (v w : Value) → IsWell bases classes k heap
      → HasType bases k (ListOf t) v → HasType bases k t w → ActsWell bases classes k NoneType
      (append_outcome heap (seen heap v) w)
  append_keeps k heap t (location l) w well h hw = go (list_at k heap l h.item (well.each l (a_list h.item) h.is))
    where
      go : ListAt k heap l h.item → ActsWell bases classes k NoneType
          (append_outcome heap (seen_cell l (slice_get heap l)) w)
      go at = rw at.is (record {
        typing = k;
        grows = extends_refl k;
        well = write_keeps k heap l (a_list h.item) (list_cell (at.items ++ w ∷ [])) h.is
            (all_more k h.item at.items w at.have (of_static bases k t h.item h.equal.fro w hw)) well;
        has = tt;
      })
  append_keeps k heap t _ w well h hw = absurd h

  -- a new list
  pub list_keeps : (k : HeapTyping) (heap : Heap) (t : Tree) (vs : List Value) → IsWell bases classes k heap
      → AllHave bases k t vs → ActsWell bases classes k (ListOf t) (with_new_cell heap (list_cell vs))
  list_keeps k heap t vs well all = record {
    typing = k ++ a_list t ∷ [];
    grows = grown k (a_list t);
    well = place_keeps k heap (a_list t) (list_cell vs) all well;
    has = record {
      item = t;
      is = subst (λ n. slice_get (k ++ a_list t ∷ []) n ≡ Some (a_list t)) well.long
          (get_at_end k (a_list t) []);
      equal = record { to = same; fro = same };
    };
  }

  -- an item stored, which is of the type that the list was made with
  store_keeps_at : (k : HeapTyping) (heap : Heap) (l : ℕ) (item : Tree) (items : List Value) (o : Option ℕ) (w : Value)
      → slice_get k l ≡ Some (a_list item) → AllHave bases k item items → HasType bases k item w
      → IsWell bases classes k heap → ActsWell bases classes k NoneType (store_at heap l items o w)
  store_keeps_at k heap l item items None w is all hw well = record {
    typing = k;
    grows = extends_refl k;
    well = well;
    has = tt;
  }
  store_keeps_at k heap l item items (Some i) w is all hw well =
      record {
        typing = k;
        grows = extends_refl k;
        well = write_keeps k heap l (a_list item)
            (list_cell (slice_set items i w)) is (all_set k item items i w all hw) well;
        has = tt;
      }

  pub store_keeps : (k : HeapTyping) (heap : Heap) (t : Tree) (v i w : Value) → IsWell bases classes k heap
      → HasType bases k (ListOf t) v → HasType bases k Int i → HasType bases k t w
      → ActsWell bases classes k NoneType (store_outcome heap (seen heap v) (seen heap i) i w)
  store_keeps k heap t (location l) i w well h hi hw = go i hi
      (list_at k heap l h.item (well.each l (a_list h.item) h.is))
    where
      go : (i : Value) → HasType bases k Int i → ListAt k heap l h.item
          → ActsWell bases classes k NoneType (store_outcome heap (seen_cell l (slice_get heap l)) (seen heap i) i w)
      go (whole n) hi at = rw at.is (store_keeps_at k heap l h.item at.items (index_among (length at.items) n) w h.is
          at.have (of_static bases k t h.item h.equal.fro w hw) well)
      go (boolean b) hi at = rw at.is (store_keeps_at k heap l h.item at.items
          (index_among (length at.items) (number_of_truth b)) w h.is at.have
          (of_static bases k t h.item h.equal.fro w hw) well)
      go _ hi at = absurd hi
  store_keeps k heap t _ i w well h hi hw = absurd h
