use Rattle.std.proofs.Common.{◌≡◌, map, drop}
use Rattle.pc_tree.specs.Tree.{module_of, item_of}
use Rattle.pc_scope.specs.Bindings.{classes_in}
use Rattle.pc_annotations.specs.Bases.{bases_from}
use Rattle.pc_annotations.proofs.ParentsOf.{bases_with}
use Rattle.pc_annotations.proofs.parents.parents_of.Given as goal

abbrev pub invariant-loop-item : goal.invariant-loop-item
invariant-loop-item l =
    bases_with (module_of l.tree) l.bases.items (map item_of (drop l.item-index l.item-items))
    ≡ bases_from (module_of l.tree) 0 (classes_in (map item_of l.item-items))
