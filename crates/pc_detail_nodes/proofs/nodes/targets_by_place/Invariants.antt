use Rattle.std.proofs.Common.{◌≡◌, Some, map, take}
use Rattle.std.specs.Option.{option_map}
use Rattle.std.specs.Prelude.{Contains, filter}
use Rattle.pc_tree.specs.declared.code.Finding.{Finding}
use Rattle.pc_tree.specs.Depth.{place_of_target}
use Rattle.pc_notes.specs.Notes.{is_same_place}
use Rattle.pc_detail_nodes.specs.ByPlaces.{nodes_at}
use Rattle.pc_detail_nodes.specs.NodesHeld.{target_lent}
use Rattle.pc_detail_nodes.proofs.nodes.targets_by_place.Given as goal

abbrev pub invariant-loop-target : goal.invariant-loop-target
invariant-loop-target l = (f : Finding) → Contains l.findings f → option_map (map target_lent) (nodes_at l.by_place f.place)
    ≡ Some (filter (λ t. is_same_place f.place (place_of_target t)) (map target_lent (take l.target-index l.targets)))
