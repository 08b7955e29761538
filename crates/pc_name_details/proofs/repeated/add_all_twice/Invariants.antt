use Rattle.std.proofs.Common.{[], map, take}
use Rattle.pc_tree.specs.declared.code.Code.TheVariants.{E01}
use Rattle.pc_tree.specs.Lists.{name_seen}
use Rattle.pc_detail_rules.specs.Names.{first_from, place_of_name, twice_after}
use Rattle.pc_name_details.specs.Naming.{AreFirst, together_of}
use Rattle.pc_name_details.specs.Offered.{AddsDetails, of_code}
use Rattle.pc_name_details.proofs.repeated.add_all_twice.Given as goal

abbrev pub invariant-loop-name : goal.invariant-loop-name
invariant-loop-name l = record {
  first : AreFirst l.first (map name_seen (take l.name-index l.names));
  added : AddsDetails l.facts (of_code E01 (λ p. first_from place_of_name (twice_after (together_of l.together [])) p []
      (map name_seen (take l.name-index l.names)))) l.initial.offers l.offers;
}
