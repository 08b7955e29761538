use Rattle.std.proofs.Common.{◌≡◌, map, drop, List, ℕ}
use Rattle.pc_tree.specs.Names.{at_text}
use Rattle.pc_value.specs.Internal.Keys.{option_value}
use Rattle.pc_machine.specs.Calls.{first_some, value_named}
use Rattle.pc_machine.specs.Machine.{named_of}
use Rattle.pc_machine.proofs.calls.first_values.Given as goal

abbrev pub invariant-loop-argument : goal.invariant-loop-argument
invariant-loop-argument l = (name : List ℕ) → first_some (option_value (at_text l.values name))
    (value_named name (map named_of (drop l.argument-index l.named))) ≡ value_named name (map named_of l.named)
