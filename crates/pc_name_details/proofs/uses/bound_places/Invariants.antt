use Rattle.std.proofs.Common.{◌≡◌, ◌≤◌, [], drop, length, map}
use Rattle.pc_tree.specs.Lists.{name_seen}
use Rattle.pc_detail_rules.specs.Names.{places_named}
use Rattle.pc_name_details.specs.Uses.{first_three}
use Rattle.pc_name_details.proofs.uses.bound_places.Given as goal

abbrev pub invariant-loop-name : goal.invariant-loop-name
invariant-loop-name l = record {
  places : first_three l.places.items (places_named l.word (map name_seen (drop l.name-index l.name-items)))
      ≡ first_three [] (places_named l.word (map name_seen l.name-items));
  few : length l.places.items ≤ 3;
}
