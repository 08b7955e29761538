use Rattle.std.proofs.Common.{◌≡◌, map, take}
use Rattle.pc_tree.specs.Tree.{item_of}
use Rattle.pc_scope.specs.Bindings.{classes_in}
use Rattle.pc_annotations.proofs.names.ClassNames.of.Given as goal

abbrev pub invariant-loop-item : goal.invariant-loop-item
invariant-loop-item l =
    map (λ n. n.now) l.names.items ≡ map (λ c. c.name.text) (classes_in (map item_of (take l.item-index l.item-items)))
