-- Changes of the cell at one location.
use Rattle.std.specs.Prelude.{ℕ, suc, ◌-◌, List, [], ◌∷◌, ◌++◌, length, take, if◌then◌else◌, Option, Some, None}
use Rattle.std.specs.Prelude.{slice_get, slice_set, string_bytes}
use Rattle.pc_value.specs.declared.cell.CellChange.{CellChange as RustChange}
use Rattle.pc_value.specs.declared.cell.CellChange.TheVariants as rust
use Rattle.pc_value.specs.Value.{Value, none, DictEntry, Slot, Cell, list_cell, dict_cell, instance_cell, Heap, Other}
use Rattle.pc_value.specs.Value.{Outside, TypeError, Seen, a_number, a_text, a_none, a_tuple}
use Rattle.pc_value.specs.Actions.{Outcome, gives, stops, raises, ActionResult, keeps}
use Rattle.pc_value.specs.Containers.{with_entry, last_of, same_key}
use Rattle.pc_value.specs.Attributes.{with_field}
use Rattle.pc_value.specs.Texts.{same_text}
use Rattle.pc_value.specs.Meaning.{value_of}

-- a change of a cell: a list gets a last item, loses it, or has an item set; a dict has a key set; an instance has a
-- field set
pub data CellChange : Type 0 where
  appends : (value : Value) → CellChange
  pops : CellChange
  sets_item : (index : ℕ) (value : Value) → CellChange
  sets_key : (key value : Value) → CellChange
  sets_field : (name : List ℕ) (value : Value) → CellChange

-- a change of a cell, as the program holds it
abbrev pub change_of : RustChange → CellChange
change_of (rust.Append v) = appends (value_of v)
change_of rust.Pop = pops
change_of (rust.SetItem i v) = sets_item i (value_of v)
change_of (rust.SetKey k v) = sets_key (value_of k) (value_of v)
change_of (rust.SetField name v) = sets_field (string_bytes name) (value_of v)

-- the outcome of a change, and the cell after it
pub record ChangeResult : Type 0 where
  pub outcome : Outcome
  pub cell : Cell

-- the result of a change that gives None and leaves this cell
abbrev pub to_cell : Cell → ChangeResult
to_cell cell = record { outcome = gives none; cell = cell }

-- a list without its last item, which is given; another exception if there is none
abbrev pub pop_result : List Value → Option Value → ChangeResult
pop_result items None = record { outcome = stops Other; cell = list_cell items }
pop_result items (Some v) = record { outcome = gives v; cell = list_cell (take (length items - 1) items) }

-- the result of a change of a cell; a change that does not suit the cell's kind is out of the profile
abbrev pub change_result : CellChange → Cell → ChangeResult
change_result (appends v) (list_cell items) = to_cell (list_cell (items ++ v ∷ []))
change_result pops (list_cell items) = pop_result items (last_of items)
change_result (sets_item i v) (list_cell items) = to_cell (list_cell (slice_set items i v))
change_result (sets_key k v) (dict_cell entries) = to_cell (dict_cell (with_entry k v entries))
change_result (sets_field name v) (instance_cell class fields) =
    to_cell (instance_cell class (with_field name v fields))
change_result change cell = record { outcome = stops Outside; cell = cell }

-- a change of the cell found at a location, if there is one
abbrev pub changed_at : Heap → ℕ → CellChange → Option Cell → ActionResult
changed_at heap l change None = keeps heap (stops Outside)
changed_at heap l change (Some cell) = record {
  outcome = (change_result change cell).outcome;
  heap = slice_set heap l (change_result change cell).cell;
}

-- a change of the cell at a location of the heap; an empty location is out of the profile
abbrev pub heap_changed : Heap → ℕ → CellChange → ActionResult
heap_changed heap l change = changed_at heap l change (slice_get heap l)

-- the index of the first entry with a key, or the number of entries
abbrev pub key_place : Value → List DictEntry → ℕ
key_place key [] = 0
key_place key (e ∷ rest) = if same_key e.key key then 0 else suc (key_place key rest)

-- the index of the first field of a name, or the number of fields
abbrev pub field_place : List ℕ → List Slot → ℕ
field_place name [] = 0
field_place name (s ∷ rest) = if same_text s.name name then 0 else suc (field_place name rest)

-- `e[i] = v` on the list at a location
abbrev pub stored_at : Heap → ℕ → Option ℕ → Value → ActionResult
stored_at heap l None v = keeps heap (stops Other)
stored_at heap l (Some i) v = heap_changed heap l (sets_item i v)

-- `e[k] = v` on the dict at a location, by the kind of the key
abbrev pub stored_key : Heap → ℕ → Seen → Value → Value → ActionResult
stored_key heap l (a_number n) key v = heap_changed heap l (sets_key key v)
stored_key heap l (a_text cs) key v = heap_changed heap l (sets_key key v)
stored_key heap l a_none key v = keeps heap (stops Outside)
stored_key heap l (a_tuple items) key v = keeps heap (stops Outside)
stored_key heap l k key v = keeps heap (raises TypeError)
