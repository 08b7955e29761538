use Rattle.std.proofs.Common.{◌≡◌, ◌++◌, map, drop}
use Rattle.pc_tree.specs.Tree.{item_of}
use Rattle.pc_tree.specs.Stopping.{name_of_item}
use Rattle.pc_tree.specs.Lists.{name_seen}
use Rattle.pc_bindings.proofs.binding.add_items.Given as goal

abbrev pub invariant-loop-item : goal.invariant-loop-item
invariant-loop-item l = map name_seen l.names.items ++ map name_of_item (map item_of (drop l.item-index l.items))
    ≡ map name_seen l.fn.names.items ++ map name_of_item (map item_of l.items)
