use Rattle.std.proofs.Common.{◌≡◌, ◌++◌, flat_map, map, take}
use Rattle.pc_tree.specs.Tree.{item_of}
use Rattle.pc_module_rules.specs.NamesOfModules.{names_declared}
use Rattle.pc_report.specs.TypeListing.{fact_of}
use Rattle.pc_top.specs.NamesRead.{module_read}
use Rattle.pc_top.specs.TypesOfBytes.{name_fact}
use Rattle.pc_top.proofs.names.NameReading.add_declared.Given as goal

abbrev pub invariant-loop-item : goal.invariant-loop-item
invariant-loop-item g l =
    let m = module_read l.self in
    map fact_of l.entries.items ≡ map fact_of l.fn.entries.items
    ++ map (name_fact m) (flat_map (names_declared m) (map item_of (take l.item-index l.item-items)))
