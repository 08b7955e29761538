use Rattle.std.proofs.Common.{◌≡◌, ◌++◌, map, drop}
use Rattle.pc_tree.specs.Tree.{item_of}
use Rattle.pc_tree.specs.declared.code.Code.TheVariants.{E29}
use Rattle.pc_tree.specs.Stopping.{reserved_in_classes}
use Rattle.pc_tree.specs.Code.{at_code}
use Rattle.pc_stopping.proofs.reserved.find_reserved_in_classes.Given as goal

abbrev pub invariant-loop-item : goal.invariant-loop-item
invariant-loop-item l = l.found.items ++ at_code E29 (reserved_in_classes (map item_of (drop l.item-index l.items)))
    ≡ l.fn.found.items ++ at_code E29 (reserved_in_classes (map item_of l.items))
