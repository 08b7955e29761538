use Rattle.std.proofs.Common.{◌≡◌, drop, map, ◌++◌}
use Rattle.pc_tree.specs.declared.code.Code.TheVariants.{E01}
use Rattle.pc_tree.specs.Stopping.{bound_again}
use Rattle.pc_tree.specs.Code.{at_code}
use Rattle.pc_tree.specs.Lists.{name_seen}
use Rattle.pc_tree.specs.Names.{texts_in}
use Rattle.pc_stopping.proofs.twice.find_bound_again.Given as goal

abbrev pub invariant-loop-name : goal.invariant-loop-name
invariant-loop-name l = l.found.items ++ at_code E01 (bound_again (texts_in l.before)
    (map name_seen (drop l.name-index l.names))) ≡ l.fn.found.items ++ at_code E01
    (bound_again (texts_in l.fn.before) (map name_seen l.names))
