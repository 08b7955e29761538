use Rattle.std.proofs.Common.{◌≡◌, map, drop}
use Rattle.pc_value.specs.Meaning.{entry_of}
use Rattle.pc_value.specs.Containers.{value_at}
use Rattle.pc_value.specs.Internal.Keys.{key_of}
use Rattle.pc_value.proofs.containers.value_at.Given as goal

abbrev pub invariant-loop-entry : goal.invariant-loop-entry
invariant-loop-entry l = value_at (key_of l.key) (map entry_of l.entries) ≡ value_at (key_of l.key)
    (map entry_of (drop l.entry-index l.entries))
