use Rattle.std.proofs.Common.{◌≡◌, ◌++◌, map, drop}
use Rattle.pc_tree.specs.Tree.{item_of}
use Rattle.pc_tree.specs.Code.{at_code}
use Rattle.pc_stopping.specs.Found.{code_of, in_defs}
use Rattle.pc_stopping.proofs.defs.find_in_defs.Given as goal

abbrev pub invariant-loop-item : goal.invariant-loop-item
invariant-loop-item l = l.found.items ++ at_code (code_of l.rule)
    (in_defs l.rule (map item_of (drop l.item-index l.items))) ≡ l.fn.found.items ++ at_code (code_of l.rule)
    (in_defs l.rule (map item_of l.items))
