use Rattle.std.proofs.Common.{◌≡◌, map, take}
use Rattle.pc_value.specs.Meaning.{slot_of}
use Rattle.pc_value.proofs.value.copy_slots.Given as goal

abbrev pub invariant-loop-slot : goal.invariant-loop-slot
invariant-loop-slot l = map slot_of l.copied.items ≡ map slot_of (take l.slot-index l.slots)
