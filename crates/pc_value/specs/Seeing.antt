-- The meaning of a value's kind in the program.
use Rattle.std.specs.Prelude.{map}
use Rattle.pc_value.specs.declared.seen.Seen.{Seen as RustSeen}
use Rattle.pc_value.specs.declared.seen.Seen.TheVariants as rust
use Rattle.pc_value.specs.Value.{Seen, a_number, a_text, a_none, a_tuple, a_list, a_dict, an_instance, a_stray}
use Rattle.pc_value.specs.Value.{values_of}
use Rattle.pc_value.specs.Meaning.{value_of, entry_of, slot_of}

-- a value by its kind, as the program represents it
abbrev pub seen_of : RustSeen → Seen
seen_of (rust.Number n) = a_number n
seen_of (rust.Text cs) = a_text cs.now
seen_of rust.Nothing = a_none
seen_of (rust.Tuple items) = a_tuple (values_of (map value_of items.now))
seen_of (rust.List l items) = a_list l (map value_of items.now)
seen_of (rust.Dict l entries) = a_dict l (map entry_of entries.now)
seen_of (rust.Instance l class fields) = an_instance l class (map slot_of fields.now)
seen_of rust.Stray = a_stray
