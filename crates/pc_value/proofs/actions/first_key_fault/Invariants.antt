use Rattle.std.proofs.Common.{◌≡◌, map, drop}
use Rattle.pc_value.specs.Meaning.{entry_of, heap_of}
use Rattle.pc_value.specs.Containers.{first_key_fault}
use Rattle.pc_value.proofs.actions.first_key_fault.Given as goal

abbrev pub invariant-loop-entry : goal.invariant-loop-entry
invariant-loop-entry l = first_key_fault (heap_of l.heap) (map entry_of l.entries) ≡ first_key_fault (heap_of l.heap)
    (map entry_of (drop l.entry-index l.entries))
