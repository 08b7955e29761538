use Rattle.std.proofs.Common.{map, take}
use Rattle.pc_tree.specs.declared.code.Code.TheVariants.{E24}
use Rattle.pc_tree.specs.Lists.{name_seen}
use Rattle.pc_detail_rules.specs.Names.{late_among}
use Rattle.pc_name_details.specs.Naming.{AreFirst}
use Rattle.pc_name_details.specs.Offered.{AddsDetails, of_code}
use Rattle.pc_name_details.proofs.naming.add_all_late.Given as goal

abbrev pub invariant-loop-name : goal.invariant-loop-name
invariant-loop-name l = record {
  first : AreFirst l.first (map name_seen (take l.name-index l.names));
  added : AddsDetails l.facts (of_code E24 (λ p. late_among p (map name_seen (take l.name-index l.names)))) l.initial.offers l.offers;
}
