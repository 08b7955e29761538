use Rattle.std.proofs.Common.{◌≡◌, map, drop, List, ℕ}
use Rattle.pc_tree.specs.Names.{at_text}
use Rattle.pc_value.specs.Meaning.{value_of}
use Rattle.pc_value.specs.Internal.Keys.{option_value}
use Rattle.pc_machine.specs.Calls.{NamedValue, filled_parameters, value_named}
use Rattle.pc_machine.specs.Machine.{parameter_of, local_of}
use Rattle.pc_machine.proofs.Lists.{before}
use Rattle.pc_machine.proofs.calls.filled_parameters.Given as goal

abbrev pub invariant-loop-i : goal.invariant-loop-i
invariant-loop-i l = (named : List NamedValue)
    → ((name : List ℕ) → option_value (at_text l.by_name name) ≡ value_named name named)
    → before (map local_of l.locals.items) (filled_parameters (map parameter_of (drop l.i l.parameters))
    (map value_of (drop l.i l.values)) named)
    ≡ filled_parameters (map parameter_of l.parameters) (map value_of l.values) named
