use Rattle.std.proofs.Common.{◌≡◌, map, drop}
use Rattle.pc_types.specs.Boxed.{tree_of}
use Rattle.pc_annotations.specs.Bases.{bases_of}
use Rattle.pc_detail_rules.specs.Annotations.{clash_with}
use Rattle.pc_detail_facts.specs.Held.{module_held}
use Rattle.pc_type_details.proofs.annotating.clash_with.Given as goal

abbrev pub invariant-loop-other : goal.invariant-loop-other
invariant-loop-other l = clash_with (bases_of (module_held l.facts)) (tree_of l.first)
    (map tree_of (drop l.other-index l.others))
    ≡ clash_with (bases_of (module_held l.facts)) (tree_of l.first) (map tree_of l.others)
