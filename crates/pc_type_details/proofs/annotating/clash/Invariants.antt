use Rattle.std.proofs.Common.{◌≡◌, All, length, map}
use Rattle.pc_types.specs.Boxed.{tree_of, IsGiven}
use Rattle.pc_annotations.specs.Bases.{bases_of}
use Rattle.pc_detail_rules.specs.Annotations.{clash_among}
use Rattle.pc_detail_facts.specs.Held.{module_held}
use Rattle.pc_type_details.proofs.annotating.clash.Given as goal

abbrev pub invariant-down : goal.invariant-down
invariant-down l = record {
  among : clash_among (bases_of (module_held l.facts)) (map tree_of l.rest)
      ≡ clash_among (bases_of (module_held l.facts)) (map tree_of l.fn.parts);
  given : All IsGiven l.rest;
}

abbrev pub decreases-down : goal.decreases-down
decreases-down l = length l.rest
