use Rattle.std.proofs.Common.{◌≡◌, map, drop}
use Rattle.pc_tree.specs.Lists.{name_seen}
use Rattle.pc_bindings.specs.Bindings.{first_named}
use Rattle.pc_bindings.proofs.binding.first_named.Given as goal

abbrev pub invariant-loop-name : goal.invariant-loop-name
invariant-loop-name l = first_named l.text (map name_seen (drop l.name-index l.names))
    ≡ first_named l.text (map name_seen l.names)
