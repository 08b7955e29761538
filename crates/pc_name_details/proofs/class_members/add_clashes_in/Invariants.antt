use Rattle.std.proofs.Common.{[], map, take}
use Rattle.pc_tree.specs.declared.code.Code.TheVariants.{E06}
use Rattle.pc_tree.specs.Tree.{member_of}
use Rattle.pc_detail_facts.specs.Held.{module_held}
use Rattle.pc_detail_rules.specs.Names.{clash_detail, first_from, place_of_member}
use Rattle.pc_name_details.specs.Naming.{numbered_held}
use Rattle.pc_name_details.specs.Offered.{AddsDetails, of_code}
use Rattle.pc_name_details.proofs.class_members.add_clashes_in.Given as goal

abbrev pub invariant-loop-position : goal.invariant-loop-position
invariant-loop-position l = AddsDetails l.facts (of_code E06 (λ p. first_from place_of_member
    (clash_detail (module_held l.facts) (numbered_held l.number l.class)) p []
    (map member_of (take l.position l.class.members.items)))) l.initial.offers l.offers
