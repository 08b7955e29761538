use Rattle.std.proofs.Common.{◌≡◌, ◌++◌, map, take}
use Rattle.std.specs.Prelude.{flat_map}
use Rattle.pc_tree.specs.Lists.{name_seen}
use Rattle.pc_detail_facts.specs.Held.{body_of}
use Rattle.pc_detail_rules.specs.Names.{names_of_body}
use Rattle.pc_name_details.proofs.bound_names.add_names_of_bodies.Given as goal

abbrev pub invariant-loop-body : goal.invariant-loop-body
invariant-loop-body l = map name_seen l.names.items
    ≡ map name_seen l.initial.names.items ++ flat_map names_of_body (map body_of (take l.body-index l.bodies))
