-- Keys looked up and values found, in the program.
use Rattle.std.specs.Prelude.{Option, Some, None}
use Rattle.std.specs.Borrow.{Bor}
use Rattle.pc_value.specs.declared.containers.Key.{Key}
use Rattle.pc_value.specs.declared.containers.Key.TheVariants as rust
use Rattle.pc_value.specs.declared.value.Value.{Value as RustValue}
use Rattle.pc_value.specs.Value.{Value, whole, string}
use Rattle.pc_value.specs.Meaning.{value_of}

-- a key that the program looks up, a number or a text
abbrev pub key_of : Key → Value
key_of (rust.Number n) = whole n
key_of (rust.Text cs) = string cs.now

-- the value that the program found, if any
abbrev pub option_value : Option (Bor RustValue) → Option Value
option_value None = None
option_value (Some v) = Some (value_of v.now)
