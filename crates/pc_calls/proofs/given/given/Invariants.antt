use Rattle.std.proofs.Common.{◌≡◌, ◌++◌, [], drop}
use Rattle.pc_tree.specs.Lists.{keywords_of_list}
use Rattle.pc_scope.specs.Expressions.{keyword_names}
use Rattle.pc_rules.specs.Calls.{once_each}
use Rattle.pc_calls.specs.JudgedCalls.{names_in}
use Rattle.pc_calls.proofs.given.given.Given as goal

abbrev pub invariant-loop-argument : goal.invariant-loop-argument
invariant-loop-argument l = names_in l.named ++ once_each (names_in l.named)
    (keyword_names (keywords_of_list (drop l.argument-index l.by_name))) ≡ once_each []
    (keyword_names (keywords_of_list l.by_name))
