use Rattle.std.proofs.Common.{◌≡◌, drop, ◌++◌}
use Rattle.pc_tree.specs.Lists.{exprs_of_list, entries_of_list, keywords_of_list}
use Rattle.pc_scope.specs.Expressions.{parts_in_entries, parts_in_keywords}
use Rattle.pc_scope_findings.specs.Internal.SoughtParts.{is_judged, sought_among, some_parts}
use Rattle.pc_scope_findings.proofs.parts.+parts.Given as goal

abbrev pub invariant-seek_all-loop-item : goal.invariant-seek_all-loop-item
invariant-seek_all-loop-item l = l.found.items ++ sought_among l.scopes.tables l.sought
    (some_parts (is_judged l.sought) l.first_alone (exprs_of_list (drop l.item-index l.items))) ≡ l.fn.found.items
    ++ sought_among l.scopes.tables l.sought (some_parts (is_judged l.sought) l.first_alone (exprs_of_list l.items))

abbrev pub invariant-seek_entries-loop-entry : goal.invariant-seek_entries-loop-entry
invariant-seek_entries-loop-entry l = l.found.items ++ sought_among l.scopes.tables l.sought
    (parts_in_entries (is_judged l.sought) (entries_of_list (drop l.entry-index l.entries))) ≡ l.fn.found.items
    ++ sought_among l.scopes.tables l.sought (parts_in_entries (is_judged l.sought) (entries_of_list l.entries))

abbrev pub invariant-seek_values-loop-argument : goal.invariant-seek_values-loop-argument
invariant-seek_values-loop-argument l = l.found.items ++ sought_among l.scopes.tables l.sought
    (parts_in_keywords (is_judged l.sought) (keywords_of_list (drop l.argument-index l.by_name))) ≡ l.fn.found.items
    ++ sought_among l.scopes.tables l.sought (parts_in_keywords (is_judged l.sought) (keywords_of_list l.by_name))
