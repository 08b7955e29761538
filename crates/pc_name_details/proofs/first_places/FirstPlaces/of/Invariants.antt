use Rattle.std.proofs.Common.{map, take}
use Rattle.pc_tree.specs.Lists.{name_seen}
use Rattle.pc_name_details.specs.Naming.{AreFirst}
use Rattle.pc_name_details.proofs.first_places.FirstPlaces.of.Given as goal

abbrev pub invariant-loop-name : goal.invariant-loop-name
invariant-loop-name l = AreFirst l.first (map name_seen (take l.name-index l.names))
