use Rattle.std.proofs.Common.{◌≡◌, Some, map, take}
use Rattle.std.specs.Option.{option_map}
use Rattle.std.specs.Prelude.{Contains, filter}
use Rattle.pc_tree.specs.declared.code.Finding.{Finding}
use Rattle.pc_tree.specs.Depth.{place_of_ann}
use Rattle.pc_notes.specs.Notes.{is_same_place}
use Rattle.pc_detail_nodes.specs.ByPlaces.{nodes_at}
use Rattle.pc_detail_nodes.specs.NodesHeld.{ann_lent}
use Rattle.pc_detail_nodes.proofs.nodes.anns_by_place.Given as goal

abbrev pub invariant-loop-ann : goal.invariant-loop-ann
invariant-loop-ann l = (f : Finding) → Contains l.findings f → option_map (map ann_lent) (nodes_at l.by_place f.place)
    ≡ Some (filter (λ a. is_same_place f.place (place_of_ann a)) (map ann_lent (take l.ann-index l.anns)))
