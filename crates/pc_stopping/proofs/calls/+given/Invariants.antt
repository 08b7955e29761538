use Rattle.std.proofs.Common.{◌≡◌, ◌++◌, drop}
use Rattle.pc_tree.specs.declared.code.Code.TheVariants.{E01}
use Rattle.pc_tree.specs.Stopping.{given_in_all, given_in_entries, given_in_keywords}
use Rattle.pc_tree.specs.Lists.{exprs_of_list, entries_of_list, keywords_of_list}
use Rattle.pc_tree.specs.Code.{at_code}
use Rattle.pc_stopping.proofs.calls.+given.Given as goal

abbrev pub invariant-find_given_in_all-loop-item : goal.invariant-find_given_in_all-loop-item
invariant-find_given_in_all-loop-item l = l.found.items ++ at_code E01
    (given_in_all (exprs_of_list (drop l.item-index l.items))) ≡ l.fn.found.items ++ at_code E01
    (given_in_all (exprs_of_list l.items))

abbrev pub invariant-find_given_in_entries-loop-entry : goal.invariant-find_given_in_entries-loop-entry
invariant-find_given_in_entries-loop-entry l = l.found.items ++ at_code E01
    (given_in_entries (entries_of_list (drop l.entry-index l.entries))) ≡ l.fn.found.items ++ at_code E01
    (given_in_entries (entries_of_list l.entries))

abbrev pub invariant-find_given_in_values-loop-argument : goal.invariant-find_given_in_values-loop-argument
invariant-find_given_in_values-loop-argument l = l.found.items ++ at_code E01
    (given_in_keywords (keywords_of_list (drop l.argument-index l.by_name))) ≡ l.fn.found.items ++ at_code E01
    (given_in_keywords (keywords_of_list l.by_name))
