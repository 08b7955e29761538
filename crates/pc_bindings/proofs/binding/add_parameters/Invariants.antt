use Rattle.std.proofs.Common.{◌≡◌, ◌++◌, map, drop}
use Rattle.pc_tree.specs.Tree.{param_of}
use Rattle.pc_tree.specs.Stopping.{name_of_param}
use Rattle.pc_tree.specs.Lists.{name_seen}
use Rattle.pc_bindings.proofs.binding.add_parameters.Given as goal

abbrev pub invariant-loop-param : goal.invariant-loop-param
invariant-loop-param l = map name_seen l.names.items ++ map name_of_param (map param_of (drop l.param-index l.params))
    ≡ map name_seen l.fn.names.items ++ map name_of_param (map param_of l.params)
