use Rattle.std.proofs.Common.{◌≡◌, All, map, take}
use Rattle.pc_tree.specs.Lists.{entries_of_list}
use Rattle.pc_types.specs.Boxed.{tree_of, IsGiven}
use Rattle.pc_detail_facts.specs.Held.{known_held, module_held}
use Rattle.pc_detail_rules.specs.Operations.{value_types_here}
use Rattle.pc_type_details.proofs.sizes.value_types.Given as goal

abbrev pub invariant-loop-entry : goal.invariant-loop-entry
invariant-loop-entry l = record {
  types : map tree_of l.types.items
      ≡ value_types_here (module_held l.facts) (known_held l.facts) (entries_of_list (take l.entry-index l.entries));
  given : All IsGiven l.types.items;
}
