use Rattle.std.proofs.Common.{◌≡◌, ◌++◌, map, drop}
use Rattle.pc_tree.specs.declared.code.Code.TheVariants.{E08}
use Rattle.pc_tree.specs.Code.{at_code}
use Rattle.pc_class.specs.Entries.{entry_seen, late_places, defaulted_in}
use Rattle.pc_class.proofs.entries.find_late_fields.Given as goal

abbrev pub invariant-loop-entry : goal.invariant-loop-entry
invariant-loop-entry l =
    (l.found.items ++ at_code E08 (late_places l.defaulted (map entry_seen (drop l.entry-index l.entries)))
    ≡ l.fn.found.items ++ at_code E08 (late_places l.fn.defaulted (map entry_seen l.entries)))
    × (defaulted_in l.defaulted (map entry_seen (drop l.entry-index l.entries)) ≡ defaulted_in l.fn.defaulted
    (map entry_seen l.entries))
