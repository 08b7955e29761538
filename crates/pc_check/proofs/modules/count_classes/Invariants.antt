use Rattle.std.proofs.Common.{◌≡◌, ◌≤◌, ◌+◌, map, drop, length}
use Rattle.pc_tree.specs.Tree.{item_of}
use Rattle.pc_scope.specs.Bindings.{classes_in}
use Rattle.pc_check.proofs.modules.count_classes.Given as goal

abbrev pub invariant-loop-item : goal.invariant-loop-item
invariant-loop-item l = (l.classes ≤ l.item-index) ×
    (l.classes + length (classes_in (map item_of (drop l.item-index l.items))) ≡ length
    (classes_in (map item_of l.items)))
