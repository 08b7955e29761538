use Rattle.std.proofs.Common.{◌≡◌, ◌++◌, flat_map, map, take}
use Rattle.pc_tree.specs.Tree.{member_of}
use Rattle.pc_module_rules.specs.NamesOfModules.{names_in_member}
use Rattle.pc_report.specs.TypeListing.{fact_of}
use Rattle.pc_top.specs.NamesRead.{module_read}
use Rattle.pc_top.specs.TypesOfBytes.{name_fact}
use Rattle.pc_top.proofs.names.NameReading.add_members.Given as goal

abbrev pub invariant-loop-member : goal.invariant-loop-member
invariant-loop-member g l =
    let m = module_read l.self in
    map fact_of l.entries.items ≡ map fact_of l.fn.entries.items
    ++ map (name_fact m) (flat_map (names_in_member m) (map member_of (take l.member-index l.members)))
