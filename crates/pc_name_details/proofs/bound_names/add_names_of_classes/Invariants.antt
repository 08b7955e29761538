use Rattle.std.proofs.Common.{◌≡◌, ◌++◌, map, take}
use Rattle.std.specs.Prelude.{flat_map}
use Rattle.pc_tree.specs.Lists.{name_seen}
use Rattle.pc_detail_facts.specs.Held.{class_lent}
use Rattle.pc_detail_rules.specs.Names.{names_of_members}
use Rattle.pc_name_details.proofs.bound_names.add_names_of_classes.Given as goal

abbrev pub invariant-loop-class : goal.invariant-loop-class
invariant-loop-class l = map name_seen l.names.items
    ≡ map name_seen l.initial.names.items ++ flat_map names_of_members (map class_lent (take l.class-index l.classes))
