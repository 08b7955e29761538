-- The kind of a value of a list, dict or class type in a well-typed heap.
use Rattle.std.proofs.Common.{◌≡◌, ℕ, List, ap, ◌∙◌}
use Rattle.std.specs.Prelude.{Some, slice_get}
use Rattle.pc_types.specs.Tree.{Tree, Class}
use Rattle.pc_types.specs.Below.{Bases, Below}
use Rattle.pc_class.specs.Facts as facts
use Rattle.pc_class.specs.Facts.{class_facts_at}
use Rattle.pc_value.specs.Value as value
use Rattle.pc_value.specs.Value.{Value, location, Cell, list_cell, dict_cell, instance_cell, Heap, DictEntry, Slot, seen}
use Rattle.pc_value.specs.Value.{seen_cell}
use Rattle.pc_sound.specs.Values.{HeapTyping, a_list, a_dict, a_class, Equal, IsList, IsDict, IsInstance, AllHave}
use Rattle.pc_sound.specs.Values.{EntriesHave, SlotsHave, CellHas, CellAt, IsWell}

-- the list at a location, with the type that its items are recorded with
pub record SeesList (bases : Bases) (k : HeapTyping) (heap : Heap) (l : ℕ) (t : Tree) : Type 0 where
  pub items : List Value
  pub item : Tree
  pub recorded : slice_get k l ≡ Some (a_list item)
  pub equal : Equal bases item t
  pub cell : slice_get heap l ≡ Some (list_cell items)
  pub seen_as : seen heap (location l) ≡ value.a_list l items
  pub have : AllHave bases k item items

-- the dict at a location, with the types that its keys and values are recorded with
pub record SeesDict (bases : Bases) (k : HeapTyping) (heap : Heap) (l : ℕ) (s t : Tree) : Type 0 where
  pub entries : List DictEntry
  pub keys : Tree
  pub values : Tree
  pub recorded : slice_get k l ≡ Some (a_dict keys values)
  pub equal_keys : Equal bases keys s
  pub equal_values : Equal bases values t
  pub cell : slice_get heap l ≡ Some (dict_cell entries)
  pub seen_as : seen heap (location l) ≡ value.a_dict l entries
  pub have : EntriesHave bases k keys values entries

-- the instance at a location: of a class or of a descendant, with just the fields of its own class
pub record SeesInstance (bases : Bases) (classes : List facts.ClassFacts) (k : HeapTyping) (heap : Heap)
    (l c : ℕ) : Type 0 where
  pub class : ℕ
  pub slots : List Slot
  pub recorded : slice_get k l ≡ Some (a_class class)
  pub below : Below bases (Class class) (Class c)
  pub cell : slice_get heap l ≡ Some (instance_cell class slots)
  pub seen_as : seen heap (location l) ≡ value.an_instance l class slots
  pub have : SlotsHave bases k (class_facts_at classes class).fields slots

module _ (bases : Bases) (classes : List facts.ClassFacts) (k : HeapTyping) (heap : Heap)
    (well : IsWell bases classes k heap) where
  pub sees_list : (l : ℕ) (t : Tree) → IsList bases k l t → SeesList bases k heap l t
  sees_list l t h = go at.cell at.is at.has
    where
      at : CellAt bases classes k heap l (a_list h.item)
      at = well.each l (a_list h.item) h.is

      go : (c : Cell) → slice_get heap l ≡ Some c → CellHas bases classes k (a_list h.item) c
          → SeesList bases k heap l t
      go (list_cell items) is has = record {
        items = items;
        item = h.item;
        recorded = h.is;
        equal = h.equal;
        cell = is;
        seen_as = ap (seen_cell l) is;
        have = has;
      }
      go (dict_cell entries) is has = absurd has
      go (instance_cell d slots) is has = absurd has

  pub sees_dict : (l : ℕ) (s t : Tree) → IsDict bases k l s t → SeesDict bases k heap l s t
  sees_dict l s t h = go at.cell at.is at.has
    where
      at : CellAt bases classes k heap l (a_dict h.keys h.values)
      at = well.each l (a_dict h.keys h.values) h.is

      go : (c : Cell) → slice_get heap l ≡ Some c → CellHas bases classes k (a_dict h.keys h.values) c
          → SeesDict bases k heap l s t
      go (dict_cell entries) is has = record {
        entries = entries;
        keys = h.keys;
        values = h.values;
        recorded = h.is;
        equal_keys = h.equal_keys;
        equal_values = h.equal_values;
        cell = is;
        seen_as = ap (seen_cell l) is;
        have =
            has;
      }
      go (list_cell items) is has = absurd has
      go (instance_cell d slots) is has = absurd has

  pub sees_instance : (l c : ℕ) → IsInstance bases k l c → SeesInstance bases classes k heap l c
  sees_instance l c h = go at.cell at.is at.has
    where
      at : CellAt bases classes k heap l (a_class h.class)
      at = well.each l (a_class h.class) h.is

      go : (cell : Cell) → slice_get heap l ≡ Some cell → CellHas bases classes k (a_class h.class) cell
          → SeesInstance bases classes k heap l c
      go (instance_cell d slots) is has =
          let same : slice_get heap l ≡ Some (instance_cell h.class slots) = is ∙ ap (λ n. Some (instance_cell n slots))
          has.0 in
          record {
            class = h.class;
            slots = slots;
            recorded = h.is;
            below = h.below;
            cell = same;
            seen_as =
                ap (seen_cell l) same;
            have = has.1;
          }
      go (list_cell items) is has = absurd has
      go (dict_cell entries) is has = absurd has
