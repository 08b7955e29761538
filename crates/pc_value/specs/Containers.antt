-- Lists, dicts, tuples and texts: their lengths, items and keys, and their changes.
-- Language Reference 6.2.5 "List displays", 6.2.7 "Dictionary displays", 6.3.2 "Subscriptions";
-- Library Reference, "Sequence Types" and "Mapping Types".
use Rattle.std.specs.Prelude.{◌≡◌, ℕ, suc, ◌-◌, Bool, true, false, List, [], ◌∷◌, ◌++◌, length, take, ℤ, pos, negsuc}
use Rattle.std.specs.Prelude.{nat_lt, if◌then◌else◌, Option, Some, None, is_some, slice_get, slice_set, refl}
use Rattle.pc_value.specs.Value.{Value, whole, boolean, string, none, location, list_of, DictEntry, Cell, list_cell}
use Rattle.pc_value.specs.Value.{dict_cell, Heap, TypeError, Outside, Other, Stop, Raised, Seen, a_number, a_text}
use Rattle.pc_value.specs.Value.{a_none, a_tuple, a_list, a_dict, seen, number_of_truth}
use Rattle.pc_value.specs.Actions.{Outcome, gives, stops, raises, ActionResult, keeps}
use Rattle.pc_value.specs.Numbers.{same_number}
use Rattle.pc_value.specs.Texts.{same_text}

-- the position of an index among n items; negative ones count from the end
abbrev pub index_among : ℕ → ℤ → Option ℕ
index_among n (pos i) = if nat_lt i n then Some i else None
index_among n (negsuc i) = if nat_lt i n then Some (n - suc i) else None

-- the item at an index, if there is such an index and item
abbrev pub at_index : {A : Type 0} → List A → Option ℕ → Option A
at_index items None = None
at_index items (Some i) = slice_get items i

-- the item at an index that may be negative
abbrev pub item_numbered : {A : Type 0} → List A → ℤ → Option A
item_numbered items i = at_index items (index_among (length items) i)

-- an item, or another exception if there is none
abbrev pub gives_item : Option Value → Outcome
gives_item None = stops Other
gives_item (Some v) = gives v

-- a character as a text of its own, or another exception if there is none
abbrev pub gives_character : Option ℕ → Outcome
gives_character None = stops Other
gives_character (Some c) = gives (string (c ∷ []))

-- whether two keys are equal: by number, bool counting as int, or by text
abbrev pub same_key : Value → Value → Bool
same_key (whole x) (whole y) = same_number x y
same_key (whole x) (boolean b) = same_number x (number_of_truth b)
same_key (boolean a) (whole y) = same_number (number_of_truth a) y
same_key (boolean a) (boolean b) = same_number (number_of_truth a) (number_of_truth b)
same_key (string s) (string t) = same_text s t
same_key v w = false

-- the value of a key
abbrev pub value_at : Value → List DictEntry → Option Value
value_at key [] = None
value_at key (e ∷ rest) = if same_key e.key key then Some e.value else value_at key rest

-- the entries after a key is set: an entry with that key keeps its place and its key, a new one goes to the end
abbrev pub with_entry : Value → Value → List DictEntry → List DictEntry
with_entry key v [] = record { key = key; value = v } ∷ []
with_entry key v (e ∷ rest) = if same_key e.key key then record { key = e.key; value = v } ∷ rest
    else e ∷ with_entry key v rest

-- the entries after those of a display are set one after another
abbrev pub with_entries : List DictEntry → List DictEntry → List DictEntry
with_entries entries [] = entries
with_entries entries (e ∷ rest) = with_entries (with_entry e.key e.value entries) rest

-- `k in d`
abbrev pub contains_key : Seen → List DictEntry → Outcome
contains_key (a_number n) entries = gives (boolean (is_some (value_at (whole n) entries)))
contains_key (a_text cs) entries = gives (boolean (is_some (value_at (string cs) entries)))
contains_key a_none entries = gives (boolean false)
contains_key (a_tuple items) entries = stops Outside
contains_key v entries = raises TypeError

-- `d[k]`: a key that is absent is another exception
abbrev pub dict_item : Seen → List DictEntry → Outcome
dict_item (a_number n) entries = gives_item (value_at (whole n) entries)
dict_item (a_text cs) entries = gives_item (value_at (string cs) entries)
dict_item a_none entries = stops Other
dict_item (a_tuple items) entries = stops Outside
dict_item v entries = raises TypeError

-- the value that was found, else the value None
abbrev pub value_or_none : Option Value → Value
value_or_none None = none
value_or_none (Some v) = v

-- `d.get(k)`: None for a key that is absent and for the key None
abbrev pub dict_get : Seen → List DictEntry → Outcome
dict_get (a_number n) entries = gives (value_or_none (value_at (whole n) entries))
dict_get (a_text cs) entries = gives (value_or_none (value_at (string cs) entries))
dict_get a_none entries = gives none
dict_get (a_tuple items) entries = stops Outside
dict_get v entries = raises TypeError

-- `e[i]`: a list, text or tuple with an int, a dict with a key
abbrev pub item_outcome : Seen → Seen → Outcome
item_outcome (a_list l items) (a_number i) = gives_item (item_numbered items i)
item_outcome (a_text cs) (a_number i) = gives_character (item_numbered cs i)
item_outcome (a_tuple items) (a_number i) = gives_item (item_numbered (list_of items) i)
item_outcome (a_dict l entries) key = dict_item key entries
item_outcome v w = raises TypeError

-- a location gets a new cell; the outcome is None
abbrev pub with_cell : Heap → ℕ → Cell → ActionResult
with_cell heap l cell = record { outcome = gives none; heap = slice_set heap l cell }

-- `e[i] = v` on a list
abbrev pub store_at : Heap → ℕ → List Value → Option ℕ → Value → ActionResult
store_at heap l items None v = keeps heap (stops Other)
store_at heap l items (Some i) v = with_cell heap l (list_cell (slice_set items i v))

-- `e[i] = v` on a dict, by the kind of the key
abbrev pub store_key : Heap → ℕ → List DictEntry → Seen → Value → Value → ActionResult
store_key heap l entries (a_number n) key v = with_cell heap l (dict_cell (with_entry key v entries))
store_key heap l entries (a_text cs) key v = with_cell heap l (dict_cell (with_entry key v entries))
store_key heap l entries a_none key v = keeps heap (stops Outside)
store_key heap l entries (a_tuple items) key v = keeps heap (stops Outside)
store_key heap l entries k key v = keeps heap (raises TypeError)

-- `e[i] = v`: a list with an int, a dict with a key
abbrev pub store_outcome : Heap → Seen → Seen → Value → Value → ActionResult
store_outcome heap (a_list l items) (a_number i) key v = store_at heap l items (index_among (length items) i) v
store_outcome heap (a_dict l entries) k key v = store_key heap l entries k key v
store_outcome heap o k key v = keeps heap (raises TypeError)

-- a new cell at the first free location of the heap
abbrev pub with_new_cell : Heap → Cell → ActionResult
with_new_cell heap cell = record { outcome = gives (location (length heap)); heap = heap ++ cell ∷ [] }

-- the fault of a key in a dict display: None and a tuple are out of the profile, others but int and str are TypeError
abbrev pub key_fault : Seen → Option Stop
key_fault (a_number n) = None
key_fault (a_text cs) = None
key_fault a_none = Some Outside
key_fault (a_tuple items) = Some Outside
key_fault k = Some (Raised TypeError)

-- the first stop if there is one, else the second
abbrev pub first_stop : Option Stop → Option Stop → Option Stop
first_stop None second = second
first_stop (Some stop) second = Some stop

-- the fault of the first key that has one
abbrev pub first_key_fault : Heap → List DictEntry → Option Stop
first_key_fault heap [] = None
first_key_fault heap (e ∷ rest) = first_stop (key_fault (seen heap e.key)) (first_key_fault heap rest)

-- a dict display, given the fault of its keys: a new dict with its entries if there is none, else that stop
abbrev pub dict_display : Heap → List DictEntry → Option Stop → ActionResult
dict_display heap entries None = with_new_cell heap (dict_cell (with_entries [] entries))
dict_display heap entries (Some stop) = keeps heap (stops stop)

-- `e.append(v)` on a list
abbrev pub append_outcome : Heap → Seen → Value → ActionResult
append_outcome heap (a_list l items) v = with_cell heap l (list_cell (items ++ v ∷ []))
append_outcome heap o v = keeps heap (stops Outside)

-- the last item of a list, if it has one
abbrev pub last_of : {A : Type 0} → List A → Option A
last_of items = slice_get items (length items - 1)

-- the list at a location without its last item, which is given; another exception if it has none
abbrev pub pop_from : Heap → ℕ → List Value → Option Value → ActionResult
pop_from heap l items None = keeps heap (stops Other)
pop_from heap l items (Some v) = record {
  outcome = gives v;
  heap = slice_set heap l (list_cell (take (length items - 1) items));
}

-- `e.pop()` on a list: its last item; another exception if it is empty
abbrev pub pop_outcome : Heap → Seen → ActionResult
pop_outcome heap (a_list l items) = pop_from heap l items (last_of items)
pop_outcome heap o = keeps heap (stops Outside)

-- `e.get(k)` on a dict
abbrev pub get_outcome : Seen → Seen → Outcome
get_outcome (a_dict l entries) key = dict_get key entries
get_outcome o key = stops Outside

-- `len(e)`: a text by its characters
abbrev pub length_outcome : Seen → Outcome
length_outcome (a_text cs) = gives (whole (pos (length cs)))
length_outcome (a_list l items) = gives (whole (pos (length items)))
length_outcome (a_dict l entries) = gives (whole (pos (length entries)))
length_outcome (a_tuple items) = gives (whole (pos (length (list_of items))))
length_outcome v = raises TypeError

-- ---- rows

last_by_minus_one : item_numbered {A = ℕ} (4 ∷ 5 ∷ 6 ∷ []) (negsuc 0) ≡ Some 6
last_by_minus_one = refl

before_the_first : item_numbered {A = ℕ} (4 ∷ 5 ∷ 6 ∷ []) (negsuc 3) ≡ None
before_the_first = refl

behind_the_last : item_numbered {A = ℕ} (4 ∷ 5 ∷ 6 ∷ []) (pos 3) ≡ None
behind_the_last = refl

-- `{True: None, 1: 7}` has the one key True, with 7
true_is_the_key_one : with_entries []
    (record { key = boolean true; value = none } ∷ record { key = whole (pos 1); value = whole (pos 7) } ∷ [])
    ≡ record { key = boolean true; value = whole (pos 7) } ∷ []
true_is_the_key_one = refl

-- a key that is set again keeps its place
keeps_its_place : with_entry (whole (pos 1)) none
    (record { key = whole (pos 1); value = whole (pos 5) } ∷ record { key = whole (pos 2); value = whole (pos 6) } ∷ [])
    ≡ record { key = whole (pos 1); value = none } ∷ record { key = whole (pos 2); value = whole (pos 6) } ∷ []
keeps_its_place = refl
