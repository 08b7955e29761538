use Rattle.std.proofs.Common.{◌≡◌, ◌++◌, map, drop}
use Rattle.pc_tree.specs.Tree.{item_of}
use Rattle.pc_scope.specs.Bindings.{classes_in}
use Rattle.pc_scope.specs.Tables.{methods_locals}
use Rattle.pc_scope.specs.Internal.WalkViews.{methods_texts}
use Rattle.pc_scope.proofs.locals.locals_of_classes.Given as goal

abbrev pub invariant-loop-item : goal.invariant-loop-item
invariant-loop-item l = map methods_texts l.all.items ++ map methods_locals
    (classes_in (map item_of (drop l.item-index l.items))) ≡ map methods_locals (classes_in (map item_of l.items))
