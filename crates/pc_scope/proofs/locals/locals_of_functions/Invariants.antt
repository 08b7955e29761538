use Rattle.std.proofs.Common.{◌≡◌, ◌++◌, map, drop, false}
use Rattle.pc_tree.specs.Tree.{item_of}
use Rattle.pc_scope.specs.Bindings.{functions_in}
use Rattle.pc_scope.specs.Tables.{locals_by}
use Rattle.pc_scope.specs.Internal.WalkViews.{locals_in}
use Rattle.pc_scope.proofs.locals.locals_of_functions.Given as goal

abbrev pub invariant-loop-item : goal.invariant-loop-item
invariant-loop-item l = map locals_in l.all.items ++ map (locals_by false)
    (functions_in (map item_of (drop l.item-index l.items))) ≡ map (locals_by false)
    (functions_in (map item_of l.items))
