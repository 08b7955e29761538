use Rattle.std.proofs.Common.{◌≡◌, ◌++◌, ◌∷◌, map, take}
use Rattle.pc_tree.specs.Tree.{func_of, param_of}
use Rattle.pc_module_rules.specs.NamesOfModules.{function_name, parameter_name}
use Rattle.pc_report.specs.TypeListing.{fact_of}
use Rattle.pc_top.specs.NamesRead.{module_read}
use Rattle.pc_top.specs.TypesOfBytes.{name_fact}
use Rattle.pc_top.proofs.names.NameReading.add_function.Given as goal

abbrev pub invariant-loop-param : goal.invariant-loop-param
invariant-loop-param g l =
    let m = module_read l.self in
    map fact_of l.entries.items ≡ map fact_of l.fn.entries.items ++ map (name_fact m) (function_name m (func_of l.def)
    ∷ map (parameter_name m) (map param_of (take l.param-index l.param-items)))
