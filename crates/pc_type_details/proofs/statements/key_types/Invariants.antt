use Rattle.std.proofs.Common.{◌≡◌, ◌≤◌, [], All, drop, length}
use Rattle.pc_tree.specs.Lists.{entries_of_list}
use Rattle.pc_detail_facts.specs.Held.{IsGivenLent, known_held, module_held, trees_lent}
use Rattle.pc_type_details.specs.Keys.{first_keys}
use Rattle.pc_detail_rules.specs.Operations.{key_types_here}
use Rattle.pc_type_details.proofs.statements.key_types.Given as goal

abbrev pub invariant-loop-entry : goal.invariant-loop-entry
invariant-loop-entry l = record {
  trees : first_keys (trees_lent l.types.items)
      (key_types_here (module_held l.facts) (known_held l.facts) (entries_of_list (drop l.entry-index l.entries)))
      ≡ first_keys [] (key_types_here (module_held l.facts) (known_held l.facts) (entries_of_list l.entries));
  given : All IsGivenLent l.types.items;
  few : length l.types.items ≤ 3;
}
