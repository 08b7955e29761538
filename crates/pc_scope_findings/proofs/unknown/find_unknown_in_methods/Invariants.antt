use Rattle.std.proofs.Common.{◌≡◌, ◌≤◌, ◌++◌, map, drop}
use Rattle.pc_tree.specs.Tree.{member_of}
use Rattle.pc_tree.specs.declared.code.Code.TheVariants.{E02}
use Rattle.pc_scope.specs.declared.resolution.Owner.TheVariants as owners
use Rattle.pc_scope.specs.Tables.{meaning_by_tables}
use Rattle.pc_tree.specs.Code.{at_code}
use Rattle.pc_scope_findings.specs.Internal.FindingLists.{unknown_in_methods}
use Rattle.pc_scope_findings.proofs.unknown.find_unknown_in_methods.Given as goal

abbrev pub invariant-loop-member : goal.invariant-loop-member
invariant-loop-member l = (l.methods ≤ l.member-index)
    × (l.found.items ++ at_code E02 (unknown_in_methods (meaning_by_tables l.scopes.tables) l.class l.methods
    (map member_of (drop l.member-index l.members))) ≡ l.fn.found.items ++ at_code E02
    (unknown_in_methods (meaning_by_tables l.scopes.tables) l.class 0 (map member_of l.members)))
