-- Values, the heap they live in, and the ways a run stops early.
-- Language Reference 3.1 "Objects, values and types"; the part of it in the profile: own rule of the profile.
use Rattle.std.specs.Prelude.{ℕ, zero, Bool, true, false, List, [], ◌∷◌, ℤ, pos, Option, Some, None, slice_get}

-- values, and the rows of values that tuples hold
mutual
  -- a whole number without bound, a truth value, a text as its characters, None, a tuple, or the location of
  -- something in the heap
  pub data Value : Type 0 where
    whole : (number : ℤ) → Value
    boolean : (truth : Bool) → Value
    string : (characters : List ℕ) → Value
    none : Value
    tuple_of : (items : Values) → Value
    location : (place : ℕ) → Value

  -- the items of a tuple
  pub data Values : Type 0 where
    no_values : Values
    more_values : (first : Value) (rest : Values) → Values

-- the items of a tuple as a list
abbrev pub list_of : Values → List Value
list_of no_values = []
list_of (more_values v rest) = v ∷ list_of rest

-- a list of values as the items of a tuple
abbrev pub values_of : List Value → Values
values_of [] = no_values
values_of (v ∷ rest) = more_values v (values_of rest)

-- a key of a dict and its value
pub record DictEntry : Type 0 where
  pub key : Value
  pub value : Value

-- a field of an instance and its value
pub record Slot : Type 0 where
  pub name : List ℕ
  pub value : Value

-- the content of a location: a list, a dict with its entries in the order in which their keys were first set, or an
-- instance with the number of its class and its fields
pub data Cell : Type 0 where
  list_cell : (items : List Value) → Cell
  dict_cell : (entries : List DictEntry) → Cell
  instance_cell : (class : ℕ) (fields : List Slot) → Cell

-- a heap: the content of each location, from 0 on
abbrev pub Heap : Type 0
Heap = List Cell

-- the exceptions that the report names
pub data Exception : Type 0 where
  TypeError AttributeError NameError UnboundLocalError : Exception

-- the way a run stops early: one of these exceptions, another one, out of the profile, or cut off
pub data Stop : Type 0 where
  Raised : (exception : Exception) → Stop
  Other Outside Cut : Stop

-- the result of a step: a value, or the end of the run
pub data Out (A : Type 0) : Type 0 where
  Gives : (value : A) → Out A
  Stops : (stop : Stop) → Out A

-- a truth value as a number, since bool counts as int
abbrev pub number_of_truth : Bool → ℤ
number_of_truth true = pos 1
number_of_truth false = pos 0

-- a value by its kind; bool counts as int, and a heap cell comes with its location
pub data Seen : Type 0 where
  a_number : (number : ℤ) → Seen
  a_text : (characters : List ℕ) → Seen
  a_none : Seen
  a_tuple : (items : Values) → Seen
  a_list : (place : ℕ) (items : List Value) → Seen
  a_dict : (place : ℕ) (entries : List DictEntry) → Seen
  an_instance : (place class : ℕ) (fields : List Slot) → Seen
  -- an empty location, which no run reaches
  a_stray : Seen

-- the content of a location by its kind
abbrev pub seen_cell : ℕ → Option Cell → Seen
seen_cell l None = a_stray
seen_cell l (Some (list_cell items)) = a_list l items
seen_cell l (Some (dict_cell entries)) = a_dict l entries
seen_cell l (Some (instance_cell class fields)) = an_instance l class fields

-- a value by its kind, following a location into the heap
abbrev pub seen : Heap → Value → Seen
seen heap (whole n) = a_number n
seen heap (boolean b) = a_number (number_of_truth b)
seen heap (string cs) = a_text cs
seen heap none = a_none
seen heap (tuple_of items) = a_tuple items
seen heap (location l) = seen_cell l (slice_get heap l)

-- the class of a value seen as an instance
abbrev pub class_seen : Seen → Option ℕ
class_seen (a_number n) = None
class_seen (a_text cs) = None
class_seen a_none = None
class_seen (a_tuple items) = None
class_seen (a_list l items) = None
class_seen (a_dict l entries) = None
class_seen (an_instance l class fields) = Some class
class_seen a_stray = None

-- the class number of an instance in the heap
abbrev pub class_number_of : Heap → Value → Option ℕ
class_number_of heap v = class_seen (seen heap v)

-- whether a value is a list
abbrev pub is_list : Seen → Bool
is_list (a_list l items) = true
is_list v = false

-- the truth of a value: false for None, False, 0, and the empty text, list, dict and tuple.
-- Language Reference 6.11 "Boolean operations"
abbrev pub is_true_seen : Seen → Bool
is_true_seen (a_number (pos zero)) = false
is_true_seen (a_text []) = false
is_true_seen a_none = false
is_true_seen (a_tuple no_values) = false
is_true_seen (a_list l []) = false
is_true_seen (a_dict l []) = false
is_true_seen v = true

-- whether a value is true, following a location into the heap
abbrev pub is_true : Heap → Value → Bool
is_true heap v = is_true_seen (seen heap v)
