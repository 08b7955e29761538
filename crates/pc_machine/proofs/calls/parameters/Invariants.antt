use Rattle.std.proofs.Common.{◌≡◌, map, drop, ◌++◌}
use Rattle.pc_tree.specs.Tree.{param_of}
use Rattle.pc_machine.specs.Machine.{parameter_of, parameter_of_param}
use Rattle.pc_machine.proofs.calls.parameters.Given as goal

abbrev pub invariant-loop-param : goal.invariant-loop-param
invariant-loop-param l = map parameter_of l.parameters.items ++ map parameter_of_param
    (map param_of (drop l.param-index l.params)) ≡ map parameter_of_param (map param_of l.params)
