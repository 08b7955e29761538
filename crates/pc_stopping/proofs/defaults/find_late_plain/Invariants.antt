use Rattle.std.proofs.Common.{◌≡◌, drop, map, ◌++◌, false}
use Rattle.pc_tree.specs.declared.code.Code.TheVariants.{E31}
use Rattle.pc_tree.specs.Tree.{param_of}
use Rattle.pc_tree.specs.Stopping.{late_plain}
use Rattle.pc_tree.specs.Code.{at_code}
use Rattle.pc_stopping.proofs.defaults.find_late_plain.Given as goal

abbrev pub invariant-loop-param : goal.invariant-loop-param
invariant-loop-param l = l.found.items ++ at_code E31 (late_plain l.defaulted
    (map param_of (drop l.param-index l.params))) ≡ l.fn.found.items ++ at_code E31
    (late_plain false (map param_of l.params))
