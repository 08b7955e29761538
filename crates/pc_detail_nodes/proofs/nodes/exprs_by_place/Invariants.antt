use Rattle.std.proofs.Common.{◌≡◌, Some, map, take}
use Rattle.std.specs.Option.{option_map}
use Rattle.std.specs.Prelude.{Contains, filter}
use Rattle.pc_tree.specs.declared.code.Finding.{Finding}
use Rattle.pc_tree.specs.Depth.{place_of}
use Rattle.pc_notes.specs.Notes.{is_same_place}
use Rattle.pc_detail_nodes.specs.ByPlaces.{nodes_at}
use Rattle.pc_detail_facts.specs.Held.{owned_of}
use Rattle.pc_detail_nodes.proofs.nodes.exprs_by_place.Given as goal

abbrev pub invariant-loop-owned : goal.invariant-loop-owned
invariant-loop-owned l = (f : Finding) → Contains l.findings f → option_map (map owned_of) (nodes_at l.by_place f.place)
    ≡ Some (filter (λ o. is_same_place f.place (place_of o.expr)) (map owned_of (take l.owned-index l.exprs)))
