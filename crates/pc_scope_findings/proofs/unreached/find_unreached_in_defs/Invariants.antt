use Rattle.std.proofs.Common.{◌≡◌, ◌++◌, map, drop}
use Rattle.pc_tree.specs.declared.code.Code.TheVariants.{E30}
use Rattle.pc_tree.specs.Tree.{item_of}
use Rattle.pc_tree.specs.Code.{at_code}
use Rattle.pc_scope_findings.specs.Internal.FindingLists.{unreached_in_defs}
use Rattle.pc_scope_findings.proofs.unreached.find_unreached_in_defs.Given as goal

abbrev pub invariant-loop-item : goal.invariant-loop-item
invariant-loop-item l = l.found.items ++ at_code E30 (unreached_in_defs (map item_of (drop l.item-index l.items)))
    ≡ l.fn.found.items ++ at_code E30 (unreached_in_defs (map item_of l.items))
