use Rattle.std.proofs.Common.{◌≡◌, ◌++◌, map, drop}
use Rattle.pc_tree.specs.Lists.{exprs_of_list, entries_of_list, keywords_of_list}
use Rattle.pc_bindings.specs.Mentions.{in_exprs, in_entries, in_values}
use Rattle.pc_bindings.specs.Written.{scope_of, mention_of}
use Rattle.pc_bindings.proofs.expressions.+expression.Given as goal

abbrev pub invariant-add_in_exprs-loop-item : goal.invariant-add_in_exprs-loop-item
invariant-add_in_exprs-loop-item l = map mention_of l.mentions.items
    ++ in_exprs (scope_of l.scope) (exprs_of_list (drop l.item-index l.items)) ≡ map mention_of l.fn.mentions.items
    ++ in_exprs (scope_of l.scope) (exprs_of_list l.items)

abbrev pub invariant-add_in_entries-loop-entry : goal.invariant-add_in_entries-loop-entry
invariant-add_in_entries-loop-entry l = map mention_of l.mentions.items
    ++ in_entries (scope_of l.scope) (entries_of_list (drop l.entry-index l.entries))
    ≡ map mention_of l.fn.mentions.items ++ in_entries (scope_of l.scope) (entries_of_list l.entries)

abbrev pub invariant-add_in_values-loop-argument : goal.invariant-add_in_values-loop-argument
invariant-add_in_values-loop-argument l = map mention_of l.mentions.items
    ++ in_values (scope_of l.scope) (keywords_of_list (drop l.argument-index l.by_name))
    ≡ map mention_of l.fn.mentions.items ++ in_values (scope_of l.scope) (keywords_of_list l.by_name)
