use Rattle.std.proofs.Common.{◌≡◌, ◌+◌, map, drop}
use Rattle.pc_value.specs.Meaning.{slot_of}
use Rattle.pc_value.specs.Internal.Changes.{field_place}
use Rattle.pc_value.proofs.cell.field_place.Given as goal

abbrev pub invariant-loop-i : goal.invariant-loop-i
invariant-loop-i l = field_place l.name (map slot_of l.fields) ≡ l.i + field_place l.name
    (map slot_of (drop l.i l.fields))
