use Rattle.std.proofs.Common.{◌≡◌, take}
use Rattle.pc_types.specs.Shape.{nodes_of, trees}
use Rattle.pc_annotations.specs.Annotations.{read_anns}
use Rattle.pc_annotations.specs.Bases.{bases_of}
use Rattle.pc_annotations.specs.Listed.{anns_of_list}
use Rattle.pc_detail_rules.specs.Annotations.{told_nodes}
use Rattle.pc_detail_facts.specs.Held.{module_held}
use Rattle.pc_type_details.proofs.sizes.+nodes.Given as goal

abbrev pub invariant-nodes_of_each-loop-ann : goal.invariant-nodes_of_each-loop-ann
invariant-nodes_of_each-loop-ann l = l.count ≡ told_nodes (nodes_of (trees
    (read_anns (module_held l.facts) (bases_of (module_held l.facts)) (anns_of_list (take l.ann-index l.anns)))))
