-- The meaning of the program's values, cells and heaps.
use Rattle.std.specs.Prelude.{map, string_bytes}
use Rattle.pc_value.specs.declared.value.Value.{Value as RustValue, Row_of-Value, end_of-Value, more_of-Value}
use Rattle.pc_value.specs.declared.value.Value.TheVariants as rust
use Rattle.pc_value.specs.declared.value.DictEntry.{DictEntry as RustEntry}
use Rattle.pc_value.specs.declared.value.Slot.{Slot as RustSlot}
use Rattle.pc_value.specs.declared.value.Cell.{Cell as RustCell}
use Rattle.pc_value.specs.declared.value.Cell.TheVariants as rust_cell
use Rattle.pc_value.specs.declared.value.Heap.{Heap as RustHeap}
use Rattle.pc_value.specs.Value.{Value, Values, whole, boolean, string, none, tuple_of, location, no_values}
use Rattle.pc_value.specs.Value.{more_values, DictEntry, Slot, Cell, list_cell, dict_cell, instance_cell, Heap}

-- a value and the items of its tuples, as the program holds them
abbrev mutual
  pub value_of : RustValue → Value
  value_of (rust.Int n) = whole n
  value_of (rust.Bool b) = boolean b
  value_of (rust.Str cs) = string cs.items
  value_of rust.None = none
  value_of (rust.Tuple' shape items) = tuple_of (values_in items)
  value_of (rust.Location l) = location l

  -- the items of a tuple, as the program holds them
  pub values_in : {m : _} → Row_of-Value m → Values
  values_in end_of-Value = no_values
  values_in (more_of-Value v rest) = more_values (value_of v) (values_in rest)

-- a key of a dict and its value, as the program holds them
abbrev pub entry_of : RustEntry → DictEntry
entry_of e = record { key = value_of e.key; value = value_of e.value }

-- a field of an instance and its value, as the program holds them
abbrev pub slot_of : RustSlot → Slot
slot_of s = record { name = string_bytes s.name; value = value_of s.value }

-- the content of a location, as the program holds it
abbrev pub cell_of : RustCell → Cell
cell_of (rust_cell.List items) = list_cell (map value_of items.items)
cell_of (rust_cell.Dict entries) = dict_cell (map entry_of entries.items)
cell_of (rust_cell.Instance class fields) = instance_cell class (map slot_of fields.items)

-- a heap as the program holds it
abbrev pub heap_of : RustHeap → Heap
heap_of h = map cell_of h.cells.items
