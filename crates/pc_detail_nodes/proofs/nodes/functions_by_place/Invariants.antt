use Rattle.std.proofs.Common.{◌≡◌, map, take}
use Rattle.std.specs.BTreeMap.{get}
use Rattle.std.specs.Option.{option_map}
use Rattle.pc_source.specs.declared.place.Place.{Place}
use Rattle.pc_notes.specs.Texts.{place_cmp}
use Rattle.pc_detail_facts.specs.Held.{body_of}
use Rattle.pc_detail_nodes.specs.NodesHeld.{body_among}
use Rattle.pc_detail_nodes.proofs.nodes.functions_by_place.Given as goal

abbrev pub invariant-loop-body : goal.invariant-loop-body
invariant-loop-body l = (p : Place) → option_map body_of (get place_cmp l.functions p)
    ≡ body_among p (map body_of (take l.body-index l.bodies))
