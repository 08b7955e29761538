use Rattle.std.proofs.Common.{◌≡◌, All, Some, map, take}
use Rattle.pc_types.specs.Boxed.{tree_of, IsGiven}
use Rattle.pc_annotations.specs.Listed.{anns_of_list}
use Rattle.pc_detail_rules.specs.Annotations.{shown_readings}
use Rattle.pc_detail_facts.specs.Held.{module_held}
use Rattle.pc_type_details.proofs.annotating.readings.Given as goal

abbrev pub invariant-loop-ann : goal.invariant-loop-ann
invariant-loop-ann l = record {
  types : Some (map tree_of l.types.items)
      ≡ shown_readings (module_held l.facts) (anns_of_list (take l.ann-index l.anns));
  given : All IsGiven l.types.items;
}
