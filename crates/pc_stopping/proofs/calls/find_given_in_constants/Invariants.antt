use Rattle.std.proofs.Common.{◌≡◌, ◌++◌, map, drop}
use Rattle.pc_tree.specs.Tree.{item_of}
use Rattle.pc_tree.specs.declared.code.Code.TheVariants.{E01}
use Rattle.pc_tree.specs.Stopping.{given_in_constants}
use Rattle.pc_tree.specs.Code.{at_code}
use Rattle.pc_stopping.proofs.calls.find_given_in_constants.Given as goal

abbrev pub invariant-loop-item : goal.invariant-loop-item
invariant-loop-item l = l.found.items ++ at_code E01 (given_in_constants (map item_of (drop l.item-index l.items)))
    ≡ l.fn.found.items ++ at_code E01 (given_in_constants (map item_of l.items))
