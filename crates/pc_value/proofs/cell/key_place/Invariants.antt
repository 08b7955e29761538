use Rattle.std.proofs.Common.{◌≡◌, ◌+◌, map, drop}
use Rattle.pc_value.specs.Meaning.{value_of, entry_of}
use Rattle.pc_value.specs.Internal.Changes.{key_place}
use Rattle.pc_value.proofs.cell.key_place.Given as goal

abbrev pub invariant-loop-i : goal.invariant-loop-i
invariant-loop-i l = key_place (value_of l.key) (map entry_of l.entries) ≡ l.i + key_place (value_of l.key)
    (map entry_of (drop l.i l.entries))
