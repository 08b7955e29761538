use Rattle.std.proofs.Common.{◌≡◌, ◌≤◌, ◌++◌, [], map, drop}
use Rattle.pc_tree.specs.Tree.{member_of}
use Rattle.pc_scope.specs.Internal.WalkViews.{texts_in}
use Rattle.pc_class.specs.Entries.{inherited_in, entries_of_members, entry_seen}
use Rattle.pc_class.proofs.entries.entries.Given as goal

abbrev pub invariant-loop-member : goal.invariant-loop-member
invariant-loop-member l = (l.methods ≤ l.member-index)
    × (map entry_seen l.all.items ++ entries_of_members (inherited_in l.named l.base) (texts_in l.before) l.methods
    (map member_of (drop l.member-index l.members)) ≡ entries_of_members (inherited_in l.named l.base) [] 0
    (map member_of l.members))
