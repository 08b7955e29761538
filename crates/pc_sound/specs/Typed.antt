-- The checks that values are of types and a heap is well typed, under a heap typing. Own rule of the profile.
use Rattle.std.specs.Prelude.{◌&&◌, ◌||◌, ◌==◌, ℕ, not, bytes_eq, List, [], ◌∷◌, Bool as Test, true, false, Option}
use Rattle.std.specs.Prelude.{Some, None, is_some, slice_get}
use Rattle.pc_scope.specs.Resolution.{is_one_of}
use Rattle.pc_types.specs.Tree.{Tree, Trees, Any, Object, Int, Bool, Str, NoneType, Class, ListOf, DictOf, TupleOf}
use Rattle.pc_types.specs.Tree.{Union, end, more, erase}
use Rattle.pc_types.specs.Below.{Bases}
use Rattle.pc_types.specs.Join.{same_tree, reaches}
use Rattle.pc_class.specs.Facts as facts
use Rattle.pc_class.specs.Facts.{TypedParameter, class_facts_at}
use Rattle.pc_rules.specs.Calls.{parameter_names}
use Rattle.pc_value.specs.Value.{Value, Values, whole, boolean, string, none, tuple_of, location, no_values}
use Rattle.pc_value.specs.Value.{more_values, DictEntry, Slot, Cell, list_cell, dict_cell, instance_cell, Heap}
use Rattle.pc_machine.specs.Calls.{NamedValue, value_named}
use Rattle.pc_sound.specs.Values.{HeapTyping, Recorded, a_list, a_dict, a_class}

-- whether two types are the same, with each Any read as object
abbrev pub is_same_as_tested : Tree → Tree → Test
is_same_as_tested s t = same_tree (erase s) (erase t)

-- whether a location is recorded as a list of this item type
abbrev pub is_list_of : Option Recorded → Tree → Test
is_list_of (Some (a_list item)) t = is_same_as_tested item t
is_list_of r t = false

-- whether a location is recorded as a dict of these key and value types
abbrev pub is_dict_of : Option Recorded → (key value : Tree) → Test
is_dict_of (Some (a_dict keys values)) s t = is_same_as_tested keys s && is_same_as_tested values t
is_dict_of r s t = false

-- whether a location is recorded as an instance of the class or of a descendant
abbrev pub is_instance_of : Bases → Option Recorded → ℕ → Test
is_instance_of bases (Some (a_class d)) c = reaches bases d d c
is_instance_of bases r c = false

abbrev mutual
  -- whether a value is of the type
  pub has_type : Bases → HeapTyping → Tree → Value → Test
  has_type bases k Any v = true
  has_type bases k Object v = true
  has_type bases k Int (whole n) = true
  has_type bases k Int (boolean b) = true
  has_type bases k Bool (boolean b) = true
  has_type bases k Str (string cs) = true
  has_type bases k NoneType none = true
  has_type bases k (Class c) (location l) = is_instance_of bases (slice_get k l) c
  has_type bases k (ListOf t) (location l) = is_list_of (slice_get k l) t
  has_type bases k (DictOf s t) (location l) = is_dict_of (slice_get k l) s t
  has_type bases k (TupleOf ts) (tuple_of vs) = have_types bases k ts vs
  has_type bases k (Union a b) v = has_type bases k a v || has_type bases k b v
  has_type bases k _ v = false

  -- whether the values are of the types, one by one
  pub have_types : Bases → HeapTyping → Trees → Values → Test
  have_types bases k end no_values = true
  have_types bases k (more t ts) (more_values v vs) = has_type bases k t v && have_types bases k ts vs
  have_types bases k _ vs = false

-- ---- heaps

-- whether each of the values is of the type
abbrev pub all_have : Bases → HeapTyping → Tree → List Value → Test
all_have bases k t [] = true
all_have bases k t (v ∷ vs) = has_type bases k t v && all_have bases k t vs

-- whether each entry has a key of the key type and a value of the value type
abbrev pub entries_have : Bases → HeapTyping → (key value : Tree) → List DictEntry → Test
entries_have bases k s t [] = true
entries_have bases k s t (e ∷ es) = has_type bases k s e.key && (has_type bases k t e.value
    && entries_have bases k s t es)

-- whether an instance has just the fields of its class, each with a value of its type
abbrev pub slots_have : Bases → HeapTyping → List TypedParameter → List Slot → Test
slots_have bases k [] [] = true
slots_have bases k (f ∷ fs) (s ∷ ss) = bytes_eq s.name f.name && (has_type bases k f.type s.value
    && slots_have bases k fs ss)
slots_have bases k _ _ = false

-- whether a cell has the type recorded for its location
abbrev pub cell_has : Bases → List facts.ClassFacts → HeapTyping → Recorded → Cell → Test
cell_has bases classes k (a_list t) (list_cell items) = all_have bases k t items
cell_has bases classes k (a_dict s t) (dict_cell entries) = entries_have bases k s t entries
cell_has bases classes k (a_class c) (instance_cell d slots) = (d == c)
    && slots_have bases k (class_facts_at classes c).fields slots
cell_has bases classes k _ _ = false

-- whether there are as many cells as recorded locations, and each has the type recorded for it
abbrev pub cells_have : Bases → List facts.ClassFacts → HeapTyping → List Recorded → List Cell → Test
cells_have bases classes k [] [] = true
cells_have bases classes k (r ∷ rs) (c ∷ cs) = cell_has bases classes k r c && cells_have bases classes k rs cs
cells_have bases classes k _ _ = false

-- whether a heap is well typed
abbrev pub is_well : Bases → List facts.ClassFacts → HeapTyping → Heap → Test
is_well bases classes k heap = cells_have bases classes k k heap

-- ---- arguments

-- whether a parameter without an argument by position has a value by name of its type, or a default
abbrev pub takes_named : Bases → HeapTyping → TypedParameter → Option Value → Test
takes_named bases k p (Some w) = has_type bases k p.type w
takes_named bases k p None = p.has_default

-- whether the first parameters have the values by position, and the others a value by name or their default
abbrev pub fills : Bases → HeapTyping → List TypedParameter → List Value → List NamedValue → Test
fills bases k [] [] named = true
fills bases k [] (v ∷ vs) named = false
fills bases k (p ∷ ps) (v ∷ vs) named = has_type bases k p.type v && (not (is_some (value_named p.name named))
    && fills bases k ps vs named)
fills bases k (p ∷ ps) [] named = takes_named bases k p (value_named p.name named) && fills bases k ps [] named

-- whether each argument by name is for a parameter
abbrev pub all_for : List NamedValue → List TypedParameter → Test
all_for [] qs = true
all_for (a ∷ rest) qs = is_one_of a.name (parameter_names qs) && all_for rest qs

-- whether the arguments match the parameters
abbrev pub suits : Bases → HeapTyping → List TypedParameter → List Value → List NamedValue → Test
suits bases k params values named = fills bases k params values named && all_for named params
