use Rattle.std.proofs.Common.{◌≡◌, ◌++◌, drop, map}
use Rattle.pc_tree.specs.Lists.{keywords_of_list, name_seen}
use Rattle.pc_scope.specs.Expressions.{keyword_names}
use Rattle.pc_name_details.proofs.bound_names.argument_names.Given as goal

abbrev pub invariant-loop-keyword : goal.invariant-loop-keyword
invariant-loop-keyword l =
    map name_seen l.names.items ++ keyword_names (keywords_of_list (drop l.keyword-index l.keywords))
    ≡ keyword_names (keywords_of_list l.keywords)
