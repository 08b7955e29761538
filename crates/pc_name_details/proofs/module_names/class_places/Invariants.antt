use Rattle.std.proofs.Common.{map, take}
use Rattle.pc_detail_facts.specs.Held.{class_lent}
use Rattle.pc_name_details.specs.Naming.{AreFirst, names_of_classes}
use Rattle.pc_name_details.proofs.module_names.class_places.Given as goal

abbrev pub invariant-loop-class : goal.invariant-loop-class
invariant-loop-class l = AreFirst l.first (names_of_classes (map class_lent (take l.class-index l.class-items)))
