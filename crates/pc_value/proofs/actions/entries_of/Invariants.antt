use Rattle.std.proofs.Common.{◌≡◌, [], map, drop}
use Rattle.pc_value.specs.Meaning.{entry_of}
use Rattle.pc_value.specs.Containers.{with_entries}
use Rattle.pc_value.proofs.actions.entries_of.Given as goal

abbrev pub invariant-loop-entry : goal.invariant-loop-entry
invariant-loop-entry l = with_entries [] (map entry_of l.entries) ≡ with_entries (map entry_of l.set.items)
    (map entry_of (drop l.entry-index l.entries))
