use Rattle.std.proofs.Common.{◌≡◌, ◌++◌, map, drop}
use Rattle.pc_tree.specs.Tree.{item_of}
use Rattle.pc_tree.specs.declared.code.Code.TheVariants.{E02}
use Rattle.pc_tree.specs.Code.{at_code}
use Rattle.pc_scope_findings.specs.Internal.FindingLists.{decorators_in}
use Rattle.pc_scope_findings.proofs.unknown.find_decorators.Given as goal

abbrev pub invariant-loop-item : goal.invariant-loop-item
invariant-loop-item l = l.found.items ++ at_code E02 (decorators_in (map item_of (drop l.item-index l.items)))
    ≡ l.fn.found.items ++ at_code E02 (decorators_in (map item_of l.items))
