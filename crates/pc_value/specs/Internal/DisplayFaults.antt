-- The fault of a key in a dict display, in the program.
use Rattle.std.specs.Prelude.{Option, Some, None}
use Rattle.pc_value.specs.declared.actions.KeyFault.{KeyFault}
use Rattle.pc_value.specs.declared.actions.KeyFault.TheVariants as rust
use Rattle.pc_value.specs.Value.{Stop, Raised, TypeError, Outside}

-- the stop of a key fault that the program found, if it found one
abbrev pub stop_of_key_fault : Option KeyFault → Option Stop
stop_of_key_fault None = None
stop_of_key_fault (Some rust.Outside) = Some Outside
stop_of_key_fault (Some rust.TypeError) = Some (Raised TypeError)
