use Rattle.std.proofs.Common.{◌≡◌, ◌++◌, ◌∷◌, drop, map}
use Rattle.pc_run.specs.Internal.Items.{have_values}
use Rattle.pc_tree.specs.Tree.{param_of}
use Rattle.pc_run.proofs.items.have_values.Given as goal

abbrev pub invariant-loop-param : goal.invariant-loop-param
invariant-loop-param l = have_values (map param_of (drop l.param-index l.params)) ≡ have_values (map param_of l.params)
