use Rattle.pc_types.specs.Tree.{DictOf}
use Rattle.std.proofs.Common.{List}
use Rattle.pc_tree.specs.declared.tree.Entry.{Entry as RustEntry}
use Rattle.pc_tree.specs.Lists.{entries_of_list}
use Rattle.pc_detail_rules.specs.Sinks.{entry_sinks}
use Rattle.pc_types.specs.Boxed.{tree_of}
use Rattle.pc_flow_details.proofs.Kept.{LeftOf}
use Rattle.pc_flow_details.proofs.taken.add_each_entry.Given as goal

abbrev pub invariant-loop-entry : goal.invariant-loop-entry
invariant-loop-entry l =
    LeftOf l.facts (λ (xs : List (RustEntry)).
    entry_sinks (DictOf (tree_of l.key) (tree_of l.value)) (entries_of_list xs)) l.entries l.entry-index
    l.sinks l.fn.sinks
