-- Values of a type, heap typings, and well-typed heaps.
-- Typing specification, "Type system concepts": a type as the set of its values; own rule of the profile.
use Rattle.std.specs.Prelude.{◌≡◌, ◌⊎◌, ℕ, List, [], ◌∷◌, length, Some, slice_get}
use Rattle.pc_types.specs.Tree.{Tree, Trees, Any, Object, Int, Bool, Str, NoneType, Class, ListOf, DictOf, TupleOf}
use Rattle.pc_types.specs.Tree.{Union, end, more}
use Rattle.pc_types.specs.Below.{Bases, Below, Static}
use Rattle.pc_class.specs.Facts as facts
use Rattle.pc_class.specs.Facts.{TypedParameter, class_facts_at}
use Rattle.pc_value.specs.Value.{Value, Values, whole, boolean, string, none, tuple_of, location, no_values}
use Rattle.pc_value.specs.Value.{more_values, DictEntry, Slot, Cell, list_cell, dict_cell, instance_cell, Heap}

-- the record of a location in a heap typing: the type of a list's items, of a dict's keys and values, or a class
pub data Recorded : Type 0 where
  a_list : (item : Tree) → Recorded
  a_dict : (key value : Tree) → Recorded
  a_class : (class : ℕ) → Recorded

-- a heap typing: the record of each location, from 0 on
abbrev pub HeapTyping : Type 0
HeapTyping = List Recorded

-- one heap typing extends another: it keeps every record
pub record Extends (k k' : HeapTyping) : Type 0 where
  pub by : (l : ℕ) (r : Recorded) → slice_get k l ≡ Some r → slice_get k' l ≡ Some r

-- two types are static to each other
pub record Equal (bases : Bases) (s t : Tree) : Type 0 where
  pub to : Static bases s t
  pub fro : Static bases t s

-- a location is recorded as a list of items of an equal type
pub record IsList (bases : Bases) (k : HeapTyping) (l : ℕ) (t : Tree) : Type 0 where
  pub item : Tree
  pub is : slice_get k l ≡ Some (a_list item)
  pub equal : Equal bases item t

-- a location is recorded as a dict whose key type and value type are equal to these
pub record IsDict (bases : Bases) (k : HeapTyping) (l : ℕ) (key value : Tree) : Type 0 where
  pub keys : Tree
  pub values : Tree
  pub is : slice_get k l ≡ Some (a_dict keys values)
  pub equal_keys : Equal bases keys key
  pub equal_values : Equal bases values value

-- a location is recorded as an instance of a class or of a descendant
pub record IsInstance (bases : Bases) (k : HeapTyping) (l c : ℕ) : Type 0 where
  pub class : ℕ
  pub is : slice_get k l ≡ Some (a_class class)
  pub below : Below bases (Class class) (Class c)

-- the value is of the type
abbrev mutual
  pub HasType : Bases → HeapTyping → Tree → Value → Type 0
  HasType bases k Any v = Unit {0}
  HasType bases k Object v = Unit {0}
  HasType bases k Int (whole n) = Unit {0}
  HasType bases k Int (boolean b) = Unit {0}
  HasType bases k Bool (boolean b) = Unit {0}
  HasType bases k Str (string cs) = Unit {0}
  HasType bases k NoneType none = Unit {0}
  HasType bases k (Class c) (location l) = IsInstance bases k l c
  HasType bases k (ListOf t) (location l) = IsList bases k l t
  HasType bases k (DictOf s t) (location l) = IsDict bases k l s t
  HasType bases k (TupleOf ts) (tuple_of vs) = HaveTypes bases k ts vs
  HasType bases k (Union a b) v = HasType bases k a v ⊎ HasType bases k b v
  HasType bases k _ v = ⊥

  -- the values are of the types, one by one
  pub HaveTypes : Bases → HeapTyping → Trees → Values → Type 0
  HaveTypes bases k end no_values = Unit {0}
  HaveTypes bases k (more t ts) (more_values v vs) = HasType bases k t v × HaveTypes bases k ts vs
  HaveTypes bases k _ vs = ⊥

-- ---- well-typed heaps

-- each of the values is of the type
abbrev pub AllHave : Bases → HeapTyping → Tree → List Value → Type 0
AllHave bases k t [] = Unit {0}
AllHave bases k t (v ∷ vs) = HasType bases k t v × AllHave bases k t vs

-- each entry has a key of the key type and a value of the value type
abbrev pub EntriesHave : Bases → HeapTyping → (key value : Tree) → List DictEntry → Type 0
EntriesHave bases k s t [] = Unit {0}
EntriesHave bases k s t (e ∷ es) = HasType bases k s e.key × HasType bases k t e.value × EntriesHave bases k s t es

-- an instance has just the fields of its class, each with a value of its type
abbrev pub SlotsHave : Bases → HeapTyping → List TypedParameter → List Slot → Type 0
SlotsHave bases k [] [] = Unit {0}
SlotsHave bases k (f ∷ fs) (s ∷ ss) = (s.name ≡ f.name) × HasType bases k f.type s.value × SlotsHave bases k fs ss
SlotsHave bases k _ _ = ⊥

-- a cell has the type recorded for its location
abbrev pub CellHas : Bases → List facts.ClassFacts → HeapTyping → Recorded → Cell → Type 0
CellHas bases classes k (a_list t) (list_cell items) = AllHave bases k t items
CellHas bases classes k (a_dict s t) (dict_cell entries) = EntriesHave bases k s t entries
CellHas bases classes k (a_class c) (instance_cell d slots) = (d ≡ c)
    × SlotsHave bases k (class_facts_at classes c).fields slots
CellHas bases classes k _ _ = ⊥

-- a location has a cell, of the type recorded for it
pub record CellAt (bases : Bases) (classes : List facts.ClassFacts) (k : HeapTyping) (heap : Heap) (l : ℕ)
    (r : Recorded) : Type 0 where
  pub cell : Cell
  pub is : slice_get heap l ≡ Some cell
  pub has : CellHas bases classes k r cell

-- a heap is well typed
pub record IsWell (bases : Bases) (classes : List facts.ClassFacts) (k : HeapTyping) (heap : Heap) : Type 0 where
  pub long : length k ≡ length heap
  pub each : (l : ℕ) (r : Recorded) → slice_get k l ≡ Some r → CellAt bases classes k heap l r
