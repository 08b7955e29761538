use Rattle.std.proofs.Common.{◌≡◌, ◌≤◌, ◌++◌, map, drop}
use Rattle.pc_tree.specs.declared.code.Code.TheVariants.{E07}
use Rattle.pc_tree.specs.Tree.{item_of}
use Rattle.pc_scope.specs.Bindings.{classes_in}
use Rattle.pc_tree.specs.Code.{at_code}
use Rattle.pc_class.specs.Entries.{missing_bases}
use Rattle.pc_class.proofs.bases.find_missing_bases.Given as goal

abbrev pub invariant-loop-item : goal.invariant-loop-item
invariant-loop-item l = (l.class ≤ l.item-index)
    × (l.found.items ++ at_code E07 (missing_bases l.parents l.class
    (classes_in (map item_of (drop l.item-index l.items)))) ≡ l.fn.found.items ++ at_code E07
    (missing_bases l.parents 0 (classes_in (map item_of l.items))))
