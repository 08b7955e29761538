use Rattle.std.proofs.Common.{◌≡◌, ◌++◌, map, drop}
use Rattle.pc_tree.specs.Tree.{item_of}
use Rattle.pc_tree.specs.declared.code.Code.TheVariants.{E02}
use Rattle.pc_scope.specs.declared.resolution.Owner.TheVariants as owners
use Rattle.pc_scope.specs.Tables.{meaning_by_tables}
use Rattle.pc_tree.specs.Code.{at_code}
use Rattle.pc_scope_findings.specs.Internal.FindingLists.{unknown_in_constants}
use Rattle.pc_scope_findings.proofs.unknown.find_unknown_in_constants.Given as goal

abbrev pub invariant-loop-item : goal.invariant-loop-item
invariant-loop-item l = l.found.items ++ at_code E02 (unknown_in_constants
    (meaning_by_tables l.scopes.tables owners.Module) (map item_of (drop l.item-index l.items))) ≡ l.fn.found.items
    ++ at_code E02 (unknown_in_constants (meaning_by_tables l.scopes.tables owners.Module) (map item_of l.items))
