use Rattle.std.proofs.Common.{◌≡◌, map, drop}
use Rattle.pc_tree.specs.Tree.{param_of}
use Rattle.pc_tree.specs.Stopping.{is_among, name_of_param}
use Rattle.pc_stopping.proofs.twice.is_named.Given as goal

abbrev pub invariant-loop-param : goal.invariant-loop-param
invariant-loop-param l = is_among (map (λ p. (name_of_param (param_of p)).text) (drop l.param-index l.params)) l.name
    ≡ is_among (map (λ p. (name_of_param (param_of p)).text) l.params) l.name
