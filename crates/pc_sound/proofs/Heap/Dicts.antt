-- Dicts: a new dict, a read and a store of a key keep the heap well typed under every name of the dict.
use Rattle.std.proofs.Common.{◌≡◌, ℕ, zero, suc, List, [], ◌∷◌, ◌++◌, refl, sym, ap, ◌∙◌, subst, inl, inr, arith}
use Rattle.std.specs.Prelude.{Bool as Test, true, false, if◌then◌else◌, Option, Some, None, slice_get, map}
use Rattle.std.proofs.lemmas.Option.{same_Some}
use Rattle.pc_types.specs.Tree.{Tree, Int, Str, NoneType, DictOf, Union}
use Rattle.pc_types.specs.Below.{Bases, same}
use Rattle.pc_types.specs.Normal.{IsKey}
use Rattle.pc_class.specs.Facts.{ClassFacts}
use Rattle.pc_value.specs.Value as value
use Rattle.pc_value.specs.Value.{Value, whole, boolean, string, location, Cell, list_cell, dict_cell, instance_cell}
use Rattle.pc_value.specs.Value.{Heap, DictEntry, seen, seen_cell}
use Rattle.pc_value.specs.Containers.{same_key, value_at, with_entry, with_entries, gives_item, value_or_none}
use Rattle.pc_value.specs.Containers.{item_outcome, with_cell, store_outcome, key_fault, first_stop, first_key_fault}
use Rattle.pc_value.specs.Containers.{dict_display, get_outcome}
use Rattle.pc_sound.specs.Values.{HeapTyping, a_dict, HasType, EntriesHave, CellHas, CellAt, IsWell, IsDict}
use Rattle.pc_sound.specs.KeptHeaps.{OutcomeHas, ActsWell}
use Rattle.pc_sound.proofs.Lists.{get_at_end}
use Rattle.pc_sound.proofs.Values.ValuesFlow.{of_static, extends_refl}
use Rattle.pc_sound.proofs.Heap.Heaps.{write_keeps, place_keeps, grown}

-- a key of type int or str is such a value
abbrev IsKeyValue : Value → Type 0
IsKeyValue (whole n) = Unit {0}
IsKeyValue (boolean b) = Unit {0}
IsKeyValue (string cs) = Unit {0}
IsKeyValue _ = ⊥

module _ (bases : Bases) (k : HeapTyping) where
  key_value : (s : Tree) → IsKey s → (key : Value) → HasType bases k s key → IsKeyValue key
  key_value Int is (whole n) h = tt
  key_value Int is (boolean b) h = tt
  key_value Int is _ h = absurd h
  key_value Str is (string cs) h = tt
  key_value Str is _ h = absurd h
  key_value _ is key h = absurd is

  -- ---- entries

  entry_set : (s t : Tree) (key v : Value) (es : List DictEntry) → EntriesHave bases k s t es → HasType bases k s key
      → HasType bases k t v → EntriesHave bases k s t (with_entry key v es)
  entry_set s t key v [] h hk hv = (hk, hv, tt)
  entry_set s t key v (e ∷ rest) h hk hv = go (same_key e.key key) (entry_set s t key v rest h.2 hk hv)
    where
      go : (x : Test) → EntriesHave bases k s t (with_entry key v rest)
          → EntriesHave bases k s t (if x then record { key = e.key; value = v } ∷ rest else e ∷ with_entry key v rest)
      go true more = (h.0, hv, h.2)
      go false more = (h.0, h.1, more)

  entries_set : (s t : Tree) (es : List DictEntry) (more : List DictEntry) → EntriesHave bases k s t es
      → EntriesHave bases k s t more → EntriesHave bases k s t (with_entries es more)
  entries_set s t es [] h hm = h
  entries_set s t es (e ∷ rest) h hm = entries_set s t (with_entry e.key e.value es) rest
      (entry_set s t e.key e.value es h hm.0 hm.1) hm.2

  -- a value that is found by a key
  abbrev FoundHas : Tree → Option Value → Type 0
  FoundHas t None = Unit {0}
  FoundHas t (Some v) = HasType bases k t v

  found_has : (s t : Tree) (key : Value) (es : List DictEntry) → EntriesHave bases k s t es → FoundHas t (value_at key es)
  found_has s t key [] h = tt
  found_has s t key (e ∷ rest) h = go (same_key e.key key) (found_has s t key rest h.2)
    where
      go : (x : Test) → FoundHas t (value_at key rest) → FoundHas t (if x then Some e.value else value_at key rest)
      go true more = h.1
      go false more = more

  found_as : (s t : Tree) → ((v : Value) → HasType bases k s v → HasType bases k t v) → (o : Option Value)
      → FoundHas s o → FoundHas t o
  found_as s t f None h = tt
  found_as s t f (Some v) h = f v h

  gives_found : (t : Tree) (o : Option Value) → FoundHas t o → OutcomeHas bases k t (gives_item o)
  gives_found t None h = tt
  gives_found t (Some v) h = h

  or_none : (t : Tree) (o : Option Value) → FoundHas t o → HasType bases k (Union t NoneType) (value_or_none o)
  or_none t None h = inr tt
  or_none t (Some v) h = inl h

  -- the key at a place of the order
  pub key_at : (s t : Tree) (es : List DictEntry) (i : ℕ) (v : Value) → EntriesHave bases k s t es
      → slice_get (map (λ (e : DictEntry). e.key) es) i ≡ Some v → HasType bases k s v
  key_at s t [] i v h e = absurd (grind (arith, e))
  key_at s t (x ∷ es) zero v h e = subst (λ y. HasType bases k s y) (same_Some _ _ e) h.0
  key_at s t (x ∷ es) (suc i) v h e = key_at s t es i v h.2 e

  no_fault : (heap : Heap) (s t : Tree) → IsKey s → (es : List DictEntry) → EntriesHave bases k s t es
      → first_key_fault heap es ≡ None
  no_fault heap s t is [] h = refl
  no_fault heap s t is (e ∷ rest) h = ap (λ o. first_stop o (first_key_fault heap rest))
      (one e.key (key_value s is e.key h.0)) ∙ no_fault heap s t is rest h.2
    where
      one : (key : Value) → IsKeyValue key → key_fault (seen heap key) ≡ None
      one (whole n) h = refl
      one (boolean b) h = refl
      one (string cs) h = refl
      one _ h = absurd h

-- ---- dicts in the heap

module _ (bases : Bases) (classes : List ClassFacts) (k : HeapTyping) (heap : Heap) where
  -- the dict at a location
  pub record DictAt (l : ℕ) (s t : Tree) : Type 0 where
    pub entries : List DictEntry
    pub is : slice_get heap l ≡ Some (dict_cell entries)
    pub have : EntriesHave bases k s t entries

  dict_cell_at : (l : ℕ) (s t : Tree) → CellAt bases classes k heap l (a_dict s t) → DictAt l s t
  dict_cell_at l s t at = go at.cell at.is at.has
    where
      go : (c : Cell) → slice_get heap l ≡ Some c → CellHas bases classes k (a_dict s t) c → DictAt l s t
      go (dict_cell entries) is has = record { entries = entries; is = is; have = has }
      go (list_cell items) is has = absurd has
      go (instance_cell d slots) is has = absurd has

  pub dict_at : (s t : Tree) (l : ℕ) → IsWell bases classes k heap → (h : IsDict bases k l s t)
      → DictAt l h.keys h.values
  dict_at s t l well h = dict_cell_at l h.keys h.values (well.each l (a_dict h.keys h.values) h.is)

  -- a new dict
  pub dict_keeps : (s t : Tree) (es : List DictEntry) → IsKey s → IsWell bases classes k heap → EntriesHave bases k s t es
      → ActsWell bases classes k (DictOf s t) (dict_display heap es (first_key_fault heap es))
  dict_keeps s t es is well h = subst (λ o. ActsWell bases classes k (DictOf s t) (dict_display heap es o))
      (sym (no_fault bases k heap s t is es h)) (record {
        typing = k ++ a_dict s t ∷ [];
        grows = grown bases classes k (a_dict s t);
        well = place_keeps bases classes k heap (a_dict s t) (dict_cell (with_entries [] es))
            (entries_set bases k s t [] es tt h) well;
        has = record {
          keys = s;
          values = t;
          is = subst (λ n. slice_get (k ++ a_dict s t ∷ []) n ≡ Some (a_dict s t))
              well.long (get_at_end k (a_dict s t) []);
          equal_keys = record { to = same; fro = same };
          equal_values =
              record { to = same; fro = same };
        };
      })

  values_back : (s t : Tree) (l : ℕ) (h : IsDict bases k l s t) (key : Value) (es : List DictEntry)
      → EntriesHave bases k h.keys h.values es → FoundHas bases k t (value_at key es)
  values_back s t l h key es have = found_as bases k h.values t
      (λ v x. of_static bases k h.values t h.equal_values.to v x) (value_at key es)
      (found_has bases k h.keys h.values key es have)

  -- `d[k]`
  pub dict_item_has : (s t : Tree) (v key : Value) → IsKey s → IsWell bases classes k heap
      → HasType bases k (DictOf s t) v → HasType bases k s key → OutcomeHas bases k t
      (item_outcome (seen heap v) (seen heap key))
  dict_item_has s t (location l) key is well h hk = go (dict_at s t l well h) key (key_value bases k s is key hk)
    where
      go : DictAt l h.keys h.values → (key : Value) → IsKeyValue key
          → OutcomeHas bases k t (item_outcome (seen_cell l (slice_get heap l)) (seen heap key))
      go at (whole n) x = rw at.is (gives_found bases k t (value_at (whole n) at.entries)
          (values_back s t l h (whole n) at.entries at.have))
      go at (boolean b) x = rw at.is (gives_found bases k t (value_at (whole (value.number_of_truth b)) at.entries)
          (values_back s t l h (whole (value.number_of_truth b)) at.entries at.have))
      go at (string cs) x = rw at.is (gives_found bases k t (value_at (string cs) at.entries)
          (values_back s t l h (string cs) at.entries at.have))
      go at _ x = absurd x
  dict_item_has s t _ key is well h hk = absurd h

  -- `d.get(k)`
  pub dict_get_has : (s t : Tree) (v key : Value) → IsKey s → IsWell bases classes k heap
      → HasType bases k (DictOf s t) v → HasType bases k s key → OutcomeHas bases k (Union t NoneType)
      (get_outcome (seen heap v) (seen heap key))
  dict_get_has s t (location l) key is well h hk = go (dict_at s t l well h) key (key_value bases k s is key hk)
    where
      go : DictAt l h.keys h.values → (key : Value) → IsKeyValue key
          → OutcomeHas bases k (Union t NoneType) (get_outcome (seen_cell l (slice_get heap l)) (seen heap key))
      go at (whole n) x = rw at.is (or_none bases k t (value_at (whole n) at.entries)
          (values_back s t l h (whole n) at.entries at.have))
      go at (boolean b) x = rw at.is (or_none bases k t (value_at (whole (value.number_of_truth b)) at.entries)
          (values_back s t l h (whole (value.number_of_truth b)) at.entries at.have))
      go at (string cs) x = rw at.is (or_none bases k t (value_at (string cs) at.entries)
          (values_back s t l h (string cs) at.entries at.have))
      go at _ x = absurd x
  dict_get_has s t _ key is well h hk = absurd h

  -- a key set, which is of the type that the dict was made with, as its value is
  key_set : (l : ℕ) (s t : Tree) (es : List DictEntry) (key w : Value) → slice_get k l ≡ Some (a_dict s t)
      → EntriesHave bases k s t es → HasType bases k s key → HasType bases k t w → IsWell bases classes k heap
      → ActsWell bases classes k NoneType (with_cell heap l (dict_cell (with_entry key w es)))
  key_set l s t es key w is have hk hw well =
      record {
        typing = k;
        grows = extends_refl k;
        well = write_keeps bases classes k heap l (a_dict s t)
            (dict_cell (with_entry key w es)) is (entry_set bases k s t key w es have hk hw) well;
        has = tt;
      }

  -- `d[k] = w`
  pub dict_store_keeps : (s t : Tree) (v key w : Value) → IsKey s → IsWell bases classes k heap
      → HasType bases k (DictOf s t) v → HasType bases k s key → HasType bases k t w
      → ActsWell bases classes k NoneType (store_outcome heap (seen heap v) (seen heap key) key w)
  dict_store_keeps s t (location l) key w is well h hk hw = go (dict_at s t l well h) key
      (key_value bases k s is key hk) (of_static bases k s h.keys h.equal_keys.fro key hk)
    where
      go : DictAt l h.keys h.values → (key : Value) → IsKeyValue key → HasType bases k h.keys key
          → ActsWell bases classes k NoneType (store_outcome heap (seen_cell l (slice_get heap l)) (seen heap key) key
          w)
      go at (whole n) x ok = rw at.is (key_set l h.keys h.values at.entries (whole n) w h.is at.have ok
          (of_static bases k t h.values h.equal_values.fro w hw) well)
      go at (boolean b) x ok = rw at.is (key_set l h.keys h.values at.entries (boolean b) w h.is at.have ok
          (of_static bases k t h.values h.equal_values.fro w hw) well)
      go at (string cs) x ok = rw at.is (key_set l h.keys h.values at.entries (string cs) w h.is at.have ok
          (of_static bases k t h.values h.equal_values.fro w hw) well)
      go at _ x ok = absurd x
  dict_store_keeps s t _ key w is well h hk hw = absurd h
