use Rattle.std.proofs.Common.{◌≡◌, drop, map, ◌++◌}
use Rattle.pc_tree.specs.declared.code.Code.TheVariants.{E29}
use Rattle.pc_tree.specs.Stopping.{reserved_among}
use Rattle.pc_tree.specs.Code.{at_code}
use Rattle.pc_tree.specs.Lists.{name_seen}
use Rattle.pc_stopping.proofs.reserved.find_reserved.Given as goal

abbrev pub invariant-loop-name : goal.invariant-loop-name
invariant-loop-name l = l.found.items ++ at_code E29 (reserved_among (map name_seen (drop l.name-index l.names)))
    ≡ l.fn.found.items ++ at_code E29 (reserved_among (map name_seen l.names))
