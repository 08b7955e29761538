use Rattle.std.proofs.Common.{◌≡◌, ◌++◌, [], drop}
use Rattle.pc_tree.specs.declared.code.Code.TheVariants.{E01}
use Rattle.pc_tree.specs.Stopping.{given_again}
use Rattle.pc_tree.specs.Lists.{keywords_of_list}
use Rattle.pc_tree.specs.Code.{at_code}
use Rattle.pc_tree.specs.Names.{texts_in}
use Rattle.pc_stopping.proofs.calls.find_given_again.Given as goal

abbrev pub invariant-loop-argument : goal.invariant-loop-argument
invariant-loop-argument l = l.found.items ++ at_code E01 (given_again (texts_in l.before)
    (keywords_of_list (drop l.argument-index l.by_name))) ≡ l.fn.found.items ++ at_code E01
    (given_again [] (keywords_of_list l.by_name))
