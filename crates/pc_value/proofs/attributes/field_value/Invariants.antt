use Rattle.std.proofs.Common.{◌≡◌, map, drop}
use Rattle.pc_value.specs.Meaning.{slot_of}
use Rattle.pc_value.specs.Attributes.{field_value}
use Rattle.pc_value.proofs.attributes.field_value.Given as goal

abbrev pub invariant-loop-slot : goal.invariant-loop-slot
invariant-loop-slot l = field_value l.name (map slot_of l.fields) ≡ field_value l.name
    (map slot_of (drop l.slot-index l.fields))
