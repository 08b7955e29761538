use Rattle.std.proofs.Common.{◌≡◌, ◌++◌, map, drop}
use Rattle.pc_tree.specs.Tree.{item_of}
use Rattle.pc_bindings.specs.Mentions.{in_items}
use Rattle.pc_bindings.specs.Written.{mention_of}
use Rattle.pc_bindings.proofs.definitions.add_in_items.Given as goal

abbrev pub invariant-loop-item : goal.invariant-loop-item
invariant-loop-item l = map mention_of l.mentions.items ++ in_items (map item_of (drop l.item-index l.items))
    ≡ map mention_of l.fn.mentions.items ++ in_items (map item_of l.items)
