use Rattle.std.proofs.Common.{◌≡◌, drop, map, ◌++◌}
use Rattle.pc_value.specs.Meaning.{slot_of}
use Rattle.pc_machine.specs.Calls.{slots_of}
use Rattle.pc_machine.specs.Machine.{local_of}
use Rattle.pc_machine.proofs.calls.slots_of.Given as goal

abbrev pub invariant-loop-local : goal.invariant-loop-local
invariant-loop-local l = map slot_of l.slots.items ++ slots_of (map local_of (drop l.local-index l.locals))
    ≡ slots_of (map local_of l.locals)
