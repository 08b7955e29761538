use Rattle.std.proofs.Common.{◌≡◌, map, take}
use Rattle.pc_tree.specs.Lists.{name_seen}
use Rattle.pc_tree.specs.Stopping.{name_of_item}
use Rattle.pc_tree.specs.Tree.{item_of}
use Rattle.pc_name_details.proofs.module_names.item_names.Given as goal

abbrev pub invariant-loop-item : goal.invariant-loop-item
invariant-loop-item l = map name_seen l.names.items ≡ map name_of_item (map item_of (take l.item-index l.item-items))
