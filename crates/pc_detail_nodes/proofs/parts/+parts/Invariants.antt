use Rattle.std.proofs.Common.{◌≡◌, drop, map, ◌++◌, false}
use Rattle.pc_tree.specs.Lists.{exprs_of_list, entries_of_list, keywords_of_list}
use Rattle.pc_scope.specs.Expressions.{parts_in_all, parts_in_entries, parts_in_keywords}
use Rattle.pc_detail_nodes.specs.NodesHeld.{expr_lent}
use Rattle.pc_detail_nodes.proofs.parts.+parts.Given as goal

abbrev pub invariant-add_each-loop-expr : goal.invariant-add_each-loop-expr
invariant-add_each-loop-expr l = map expr_lent l.parts.items
    ++ parts_in_all false (exprs_of_list (drop l.expr-index l.exprs)) ≡ map expr_lent l.fn.parts.items
    ++ parts_in_all false (exprs_of_list l.exprs)

abbrev pub invariant-add_entries-loop-entry : goal.invariant-add_entries-loop-entry
invariant-add_entries-loop-entry l = map expr_lent l.parts.items
    ++ parts_in_entries false (entries_of_list (drop l.entry-index l.entries)) ≡ map expr_lent l.fn.parts.items
    ++ parts_in_entries false (entries_of_list l.entries)

abbrev pub invariant-add_values-loop-keyword : goal.invariant-add_values-loop-keyword
invariant-add_values-loop-keyword l = map expr_lent l.parts.items
    ++ parts_in_keywords false (keywords_of_list (drop l.keyword-index l.keywords)) ≡ map expr_lent l.fn.parts.items
    ++ parts_in_keywords false (keywords_of_list l.keywords)
