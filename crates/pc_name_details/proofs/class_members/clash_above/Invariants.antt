use Rattle.std.proofs.Common.{◌≡◌, reverse}
use Rattle.std.specs.Prelude.{find}
use Rattle.pc_tree.specs.Tree.{member_of}
use Rattle.pc_detail_facts.specs.Held.{module_held}
use Rattle.pc_detail_rules.specs.Names.{clashes_with, members_above}
use Rattle.pc_name_details.proofs.class_members.clash_above.Given as goal

abbrev pub invariant-up : goal.invariant-up
invariant-up l = find (clashes_with (member_of l.member)) (reverse (members_above (module_held l.facts) l.below))
    ≡ find (clashes_with (member_of l.member)) (reverse (members_above (module_held l.facts) l.number))

abbrev pub decreases-up : goal.decreases-up
decreases-up l = l.below
