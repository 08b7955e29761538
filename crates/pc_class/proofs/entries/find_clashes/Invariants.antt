use Rattle.std.proofs.Common.{◌≡◌, ◌++◌, map, drop}
use Rattle.pc_tree.specs.declared.code.Code.TheVariants.{E06}
use Rattle.pc_tree.specs.Code.{at_code}
use Rattle.pc_class.specs.Entries.{entry_seen, clash_places}
use Rattle.pc_class.proofs.entries.find_clashes.Given as goal

abbrev pub invariant-loop-entry : goal.invariant-loop-entry
invariant-loop-entry l = l.found.items ++ at_code E06 (clash_places (map entry_seen (drop l.entry-index l.entries)))
    ≡ l.fn.found.items ++ at_code E06 (clash_places (map entry_seen l.entries))
