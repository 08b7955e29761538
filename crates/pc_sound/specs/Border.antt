-- The border: the check of the values of a call from outside. A heap typing is built while walking the values, with one
-- type for each location, and is then checked as a whole.
-- Own rule of the profile.
use Rattle.std.specs.Prelude.{◌&&◌, ◌++◌, ◌==◌, length, ℕ, zero, suc, List, [], ◌∷◌, Bool as Test, true}
use Rattle.std.specs.Prelude.{if◌then◌else◌, Option, Some, None, slice_get}
use Rattle.pc_tree.specs.Tree.{Constant, Module}
use Rattle.pc_scope.specs.Bindings.{constants_in}
use Rattle.pc_types.specs.Tree.{Tree, Trees, Any, ListOf, DictOf, TupleOf, Union, more}
use Rattle.pc_types.specs.Below.{Bases}
use Rattle.pc_types.specs.Shape.{count}
use Rattle.pc_class.specs.Bases.{bases_of}
use Rattle.pc_class.specs.Facts as facts
use Rattle.pc_class.specs.Facts.{TypedParameter, classes_of, class_facts_at}
use Rattle.pc_value.specs.Value.{Value, Values, list_of, tuple_of, location, more_values, DictEntry, Slot, Cell, list_cell}
use Rattle.pc_value.specs.Value.{dict_cell, instance_cell, Heap}
use Rattle.pc_machine.specs.State.{State, GlobalBinding, Globals, a_value}
use Rattle.pc_machine.specs.Names.{global_by_name}
use Rattle.pc_machine.specs.Calls.{NamedValue, value_named}
use Rattle.pc_sound.specs.Values.{HeapTyping, Recorded, a_list, a_dict, a_class}
use Rattle.pc_sound.specs.Typed.{has_type, is_well, suits}

-- a value and the type that it must have
pub record ValueDemand : Type 0 where
  pub type : Tree
  pub value : Value

-- the record of each location, or none yet
abbrev pub Records : Type 0
Records = List (Option Recorded)

-- the records with one more, if the location has none yet
abbrev pub with_record : ℕ → Recorded → Records → Records
with_record l r [] = []
with_record zero r (None ∷ rest) = Some r ∷ rest
with_record zero r (Some first ∷ rest) = Some first ∷ rest
with_record (suc l) r (first ∷ rest) = first ∷ with_record l r rest

-- ---- the walk

-- the records after walking values one after another
abbrev pub walk_all : (Value → Records → Records) → List Value → Records → Records
walk_all walk [] records = records
walk_all walk (v ∷ vs) records = walk_all walk vs (walk v records)

-- the records after walking the keys and values of entries
abbrev pub walk_entries : (key value : Value → Records → Records) → List DictEntry → Records → Records
walk_entries key value [] records = records
walk_entries key value (e ∷ es) records = walk_entries key value es (value e.value (key e.key records))

-- a list without a record is recorded with the type of its items, and then they are walked
abbrev pub walk_list : (Value → Records → Records) → Tree → ℕ → Option Cell → Option (Option Recorded) → Records
    → Records
walk_list walk t l (Some (list_cell items)) (Some None) records = walk_all walk items (with_record l (a_list t) records)
walk_list walk t l cell recorded records = records

-- a dict without a record is recorded with its key and value types, and then its entries are walked
abbrev pub walk_dict : (key value : Value → Records → Records) → (key_type value_type : Tree) → ℕ → Option Cell
    → Option (Option Recorded) → Records → Records
walk_dict key value s t l (Some (dict_cell entries)) (Some None) records =
    walk_entries key value entries (with_record l (a_dict s t) records)
walk_dict key value s t l cell recorded records = records

abbrev mutual
  -- the records after walking a value as one of a type: also the content of lists and dicts, and of tuples with as many
  -- items; a union as each of its members
  pub walk : Heap → Tree → Value → Records → Records
  walk heap (ListOf t) (location l) records =
      walk_list (walk heap t) t l (slice_get heap l) (slice_get records l) records
  walk heap (DictOf s t) (location l) records =
      walk_dict (walk heap s) (walk heap t) s t l (slice_get heap l) (slice_get records l) records
  walk heap (TupleOf ts) (tuple_of vs) records = if count ts == length (list_of vs) then walk_parts heap ts vs records
      else records
  walk heap (Union a b) v records = walk heap b v (walk heap a v records)
  walk heap t v records = records

  -- the records after walking the items of a tuple, one by one
  pub walk_parts : Heap → Trees → Values → Records → Records
  walk_parts heap (more t ts) (more_values v vs) records = walk_parts heap ts vs (walk heap t v records)
  walk_parts heap ts vs records = records

-- the records after walking each demand
abbrev pub walk_demands : Heap → List ValueDemand → Records → Records
walk_demands heap [] records = records
walk_demands heap (d ∷ ds) records = walk_demands heap ds (walk heap d.type d.value records)

-- the demands of an instance's fields
abbrev pub field_demands : List TypedParameter → List Slot → List ValueDemand
field_demands (f ∷ fs) (s ∷ ss) = record { type = f.type; value = s.value } ∷ field_demands fs ss
field_demands fs ss = []

-- the demands of the fields of each instance of a heap
abbrev pub instance_demands : List facts.ClassFacts → List Cell → List ValueDemand
instance_demands classes [] = []
instance_demands classes (instance_cell c slots ∷ cells) = field_demands (class_facts_at classes c).fields slots
    ++ instance_demands classes cells
instance_demands classes (cell ∷ cells) = instance_demands classes cells

-- the records before the walk: each instance with its own class
abbrev pub first_records : List Cell → Records
first_records [] = []
first_records (instance_cell c slots ∷ cells) = Some (a_class c) ∷ first_records cells
first_records (cell ∷ cells) = None ∷ first_records cells

-- the record of a location that the walk did not reach: a list or a dict of anything, or an instance of its class
abbrev pub record_left : Cell → Recorded
record_left (list_cell items) = a_list Any
record_left (dict_cell entries) = a_dict Any Any
record_left (instance_cell c slots) = a_class c

-- the heap typing of the records
abbrev pub closed : Records → List Cell → HeapTyping
closed (Some r ∷ rest) (cell ∷ cells) = r ∷ closed rest cells
closed (None ∷ rest) (cell ∷ cells) = record_left cell ∷ closed rest cells
closed records cells = []

-- ---- demands

-- the demand of the value bound to a name
abbrev pub bound_demand : Tree → Option GlobalBinding → List ValueDemand
bound_demand t (Some (a_value v)) = record { type = t; value = v } ∷ []
bound_demand t binding = []

-- the demands of the constants of a module, given their types
abbrev pub constant_demands : List Constant → List Tree → Globals → List ValueDemand
constant_demands (c ∷ cs) (t ∷ ts) globals = bound_demand t (global_by_name c.name.text globals)
    ++ constant_demands cs ts globals
constant_demands cs ts globals = []

-- the demand of an argument by name, if there is one
abbrev pub named_demand : Tree → Option Value → List ValueDemand
named_demand t (Some v) = record { type = t; value = v } ∷ []
named_demand t None = []

-- the demands of the arguments of a call, given its parameters
abbrev pub argument_demands : List TypedParameter → List Value → List NamedValue → List ValueDemand
argument_demands [] vs named = []
argument_demands (p ∷ ps) (v ∷ vs) named = record { type = p.type; value = v } ∷ argument_demands ps vs named
argument_demands (p ∷ ps) [] named = named_demand p.type (value_named p.name named) ++ argument_demands ps [] named

-- whether each demand is met under a heap typing
abbrev pub are_met : Bases → HeapTyping → List ValueDemand → Test
are_met bases k [] = true
are_met bases k (d ∷ ds) = has_type bases k d.type d.value && are_met bases k ds

-- ---- the check

-- the heap typing found by a walk over the demands and then over the fields of all instances
abbrev pub typing_found : List facts.ClassFacts → Heap → List ValueDemand → HeapTyping
typing_found classes heap demands = closed (walk_demands heap (demands ++ instance_demands classes heap)
    (first_records heap)) heap

-- the heap typing, if under it the heap is well typed, the demands are met and the arguments match the parameters
abbrev pub passing_typing : Module → HeapTyping → Heap → List ValueDemand → List TypedParameter → List Value → List NamedValue
    → Option HeapTyping
passing_typing m k heap demands params values named = if is_well (bases_of m) (classes_of m) k heap
    && (are_met (bases_of m) k demands && suits (bases_of m) k params values named) then Some k else None

-- the heap typing of a call that fits: under it the constants of the module, the object whose method is called, and the
-- arguments are of their types, with one type for each location
abbrev pub fitting_typing : (m : Module) (types : List Tree) → State → (objects : List ValueDemand) → List TypedParameter → List Value
    → List NamedValue → Option HeapTyping
fitting_typing m types s objects params values named =
    passing_typing m (typing_found (classes_of m) s.heap (constant_demands (constants_in m.items) types s.globals ++ (objects
    ++ argument_demands params values named))) s.heap
    (constant_demands (constants_in m.items) types s.globals ++ objects) params values named
