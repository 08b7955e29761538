-- The change that an action makes is a change of the cell at the location of its object.
use Rattle.std.proofs.Common.{◌≡◌, ℕ, List, refl, sym, ap, ◌∙◌, subst}
use Rattle.std.specs.Prelude.{slice_set, slice_get, Option, Some, None, Result, Ok, Err, IfOk, OnOk, OnErr}
use Rattle.pc_source.specs.declared.fault.OutOfMemory.{OutOfMemory}
use Rattle.pc_value.specs.declared.value.Heap.{Heap as RustHeap}
use Rattle.pc_value.specs.declared.action.Outcome.{Outcome as RustOutcome}
use Rattle.pc_value.specs.Value.{Value, whole, boolean, string, none, tuple_of, location, DictEntry, Slot, Cell, list_cell}
use Rattle.pc_value.specs.Value.{dict_cell, instance_cell, Heap, Other, Seen, a_number, a_text, a_none, a_tuple, a_list}
use Rattle.pc_value.specs.Value.{a_dict, an_instance, a_stray, seen, seen_cell}
use Rattle.pc_value.specs.Actions.{ActionResult, stops, keeps}
use Rattle.pc_value.specs.Meaning.{heap_of}
use Rattle.pc_value.specs.Doing.{outcome_of, ComesTo}
use Rattle.pc_value.specs.Containers.{pop_from, last_of, store_at, store_key}
use Rattle.pc_value.specs.Internal.Changes.{CellChange, pops, sets_item, sets_key, change_result, changed_at, heap_changed}
use Rattle.pc_value.specs.Internal.Changes.{pop_result, stored_at, stored_key}
use Rattle.pc_value.proofs.Lists.{set_same}

-- a list, dict or instance that is seen is in the heap at its location
list_lies : (heap : Heap) (m l : ℕ) (items : List Value) (o : Option Cell) → slice_get heap m ≡ o
    → a_list l items ≡ seen_cell m o → slice_get heap l ≡ Some (list_cell items)
list_lies heap m l items None h e = absurd (cc)
list_lies heap m l items (Some (list_cell items')) h e =
    let at : l ≡ m = cc in let same : items ≡ items' = cc in ap (λ (k : ℕ). slice_get heap k) at ∙ h
    ∙ ap (λ (is : List Value). Some (list_cell is)) (sym same)
list_lies heap m l items (Some (dict_cell entries)) h e = absurd (cc)
list_lies heap m l items (Some (instance_cell c fields)) h e = absurd (cc)

pub list_there : (heap : Heap) (v : Value) (l : ℕ) (items : List Value) → a_list l items ≡ seen heap v
    → slice_get heap l ≡ Some (list_cell items)
list_there heap (whole n) l items e = absurd (cc)
list_there heap (boolean b) l items e = absurd (cc)
list_there heap (string cs) l items e = absurd (cc)
list_there heap none l items e = absurd (cc)
list_there heap (tuple_of vs) l items e = absurd (cc)
list_there heap (location m) l items e = list_lies heap m l items (slice_get heap m) refl e

dict_lies : (heap : Heap) (m l : ℕ) (entries : List DictEntry) (o : Option Cell) → slice_get heap m ≡ o
    → a_dict l entries ≡ seen_cell m o → slice_get heap l ≡ Some (dict_cell entries)
dict_lies heap m l entries None h e = absurd (cc)
dict_lies heap m l entries (Some (dict_cell entries')) h e =
    let at : l ≡ m = cc in let same : entries ≡ entries' = cc in ap (λ (k : ℕ). slice_get heap k) at ∙ h
    ∙ ap (λ (es : List DictEntry). Some (dict_cell es)) (sym same)
dict_lies heap m l entries (Some (list_cell items)) h e = absurd (cc)
dict_lies heap m l entries (Some (instance_cell c fields)) h e = absurd (cc)

pub dict_there : (heap : Heap) (v : Value) (l : ℕ) (entries : List DictEntry) → a_dict l entries ≡ seen heap v
    → slice_get heap l ≡ Some (dict_cell entries)
dict_there heap (whole n) l entries e = absurd (cc)
dict_there heap (boolean b) l entries e = absurd (cc)
dict_there heap (string cs) l entries e = absurd (cc)
dict_there heap none l entries e = absurd (cc)
dict_there heap (tuple_of vs) l entries e = absurd (cc)
dict_there heap (location m) l entries e = dict_lies heap m l entries (slice_get heap m) refl e

instance_lies : (heap : Heap) (m l class : ℕ) (fields : List Slot) (o : Option Cell) → slice_get heap m ≡ o
    → an_instance l class fields ≡ seen_cell m o → slice_get heap l ≡ Some (instance_cell class fields)
instance_lies heap m l class fields None h e = absurd (cc)
instance_lies heap m l class fields (Some (instance_cell class' fields')) h e =
    let at : l ≡ m = cc in let same : instance_cell class fields ≡ instance_cell class' fields' = cc in
    ap (λ (k : ℕ). slice_get heap k) at ∙ h ∙ ap (λ (c : Cell). Some c) (sym same)
instance_lies heap m l class fields (Some (list_cell items)) h e = absurd (cc)
instance_lies heap m l class fields (Some (dict_cell entries)) h e = absurd (cc)

pub instance_there : (heap : Heap) (v : Value) (l class : ℕ) (fields : List Slot) → an_instance l class fields
    ≡ seen heap v → slice_get heap l ≡ Some (instance_cell class fields)
instance_there heap (whole n) l class fields e = absurd (cc)
instance_there heap (boolean b) l class fields e = absurd (cc)
instance_there heap (string cs) l class fields e = absurd (cc)
instance_there heap none l class fields e = absurd (cc)
instance_there heap (tuple_of vs) l class fields e = absurd (cc)
instance_there heap (location m) l class fields e = instance_lies heap m l class fields (slice_get heap m) refl e

-- a change at a location, where it is known what lies there
pub changes : (heap : Heap) (l : ℕ) (change : CellChange) (cell : Cell) → slice_get heap l ≡ Some cell
    → heap_changed heap l change ≡ record {
      outcome = (change_result change cell).outcome;
      heap =
          slice_set heap l (change_result change cell).cell;
    }
changes heap l change cell h = ap (λ (o : Option Cell). changed_at heap l change o) h

pub pops_there : (heap : Heap) (l : ℕ) (items : List Value) → slice_get heap l ≡ Some (list_cell items)
    → heap_changed heap l pops ≡ pop_from heap l items (last_of items)
pops_there heap l items h = changes heap l pops (list_cell items) h ∙ go (last_of items)
  where
    go : (o : Option Value) → record {
      outcome = (pop_result items o).outcome;
      heap =
          slice_set heap l (pop_result items o).cell;
    } ≡ pop_from heap l items o
    go None = ap (λ (hp : Heap). keeps hp (stops Other)) (set_same heap l (list_cell items) h)
    go (Some v) = refl

-- the clauses of a change, as those of an action
pub changes_to : (r : Result RustOutcome OutOfMemory) (old new : RustHeap) (a b : ActionResult)
    → IfOk r (λ o. outcome_of o ≡ a.outcome) → OnOk r (heap_of new ≡ a.heap) → OnErr r (heap_of new ≡ heap_of old)
    → a ≡ b → ComesTo r old new b
changes_to (Ok o) old new a b out after un e = (
  out ∙ ap (λ (x : ActionResult). x.outcome) e,
  after
      ∙ ap (λ (x : ActionResult). x.heap) e,
)
changes_to (Err x) old new a b out after un e = un

-- a store in a list or a dict, where it lies there
pub stores_there : (heap : Heap) (l : ℕ) (items : List Value) (i : Option ℕ) (v : Value)
    → slice_get heap l ≡ Some (list_cell items) → stored_at heap l i v ≡ store_at heap l items i v
stores_there heap l items None v h = refl
stores_there heap l items (Some i) v h = changes heap l (sets_item i v) (list_cell items) h

pub keys_there : (heap : Heap) (l : ℕ) (entries : List DictEntry) (k : Seen) (key v : Value)
    → slice_get heap l ≡ Some (dict_cell entries) → stored_key heap l k key v ≡ store_key heap l entries k key v
keys_there heap l entries (a_number n) key v h = changes heap l (sets_key key v) (dict_cell entries) h
keys_there heap l entries (a_text cs) key v h = changes heap l (sets_key key v) (dict_cell entries) h
keys_there heap l entries a_none key v h = refl
keys_there heap l entries (a_tuple items) key v h = refl
keys_there heap l entries (a_list m items) key v h = refl
keys_there heap l entries (a_dict m es) key v h = refl
keys_there heap l entries (an_instance m c fs) key v h = refl
keys_there heap l entries a_stray key v h = refl

-- the same outcome of two actions that are one
pub comes_as : (r : Result RustOutcome OutOfMemory) (old new : RustHeap) (a b : ActionResult) → a ≡ b
    → ComesTo r old new a → ComesTo r old new b
comes_as r old new a b e h = subst (λ (x : ActionResult). ComesTo r old new x) e h
