use Rattle.std.proofs.Common.{◌≡◌, ◌≤◌, map, drop, List, ℕ}
use Rattle.pc_tree.specs.Tree.{item_of}
use Rattle.pc_scope.specs.Resolution.{bound_first}
use Rattle.pc_tree.specs.Names.{first_of}
use Rattle.pc_scope.specs.Internal.WalkViews.{at_text}
use Rattle.pc_scope.proofs.globals.globals.Given as goal

abbrev pub invariant-loop-item : goal.invariant-loop-item
invariant-loop-item l = (l.bound.constants ≤ l.item-index) × (l.bound.functions ≤ l.item-index) × (l.bound.classes ≤ l.item-index)
    × ((text : List ℕ) → first_of (at_text l.globals text) (bound_first l.bound.constants l.bound.functions
    l.bound.classes (map item_of (drop l.item-index l.items)) text) ≡ bound_first 0 0 0 (map item_of l.items) text)
