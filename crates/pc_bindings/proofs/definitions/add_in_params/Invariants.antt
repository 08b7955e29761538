use Rattle.std.proofs.Common.{◌≡◌, ◌++◌, map, drop}
use Rattle.pc_tree.specs.Tree.{param_of}
use Rattle.pc_bindings.specs.Mentions.{in_params}
use Rattle.pc_bindings.specs.Written.{scope_of, mention_of}
use Rattle.pc_bindings.proofs.definitions.add_in_params.Given as goal

abbrev pub invariant-loop-param : goal.invariant-loop-param
invariant-loop-param l = map mention_of l.mentions.items
    ++ in_params (scope_of l.scope) (map param_of (drop l.param-index l.params)) ≡ map mention_of l.fn.mentions.items
    ++ in_params (scope_of l.scope) (map param_of l.params)
