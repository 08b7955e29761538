use Rattle.std.proofs.Common.{◌≡◌, ◌++◌, map, take}
use Rattle.pc_tree.specs.Lists.{name_seen}
use Rattle.pc_tree.specs.Tree.{param_of}
use Rattle.pc_scope.specs.Bindings.{param_names}
use Rattle.pc_name_details.proofs.bound_names.add_params.Given as goal

abbrev pub invariant-loop-param : goal.invariant-loop-param
invariant-loop-param l = map name_seen l.names.items
    ≡ map name_seen l.initial.names.items ++ param_names (map param_of (take l.param-index l.params))
