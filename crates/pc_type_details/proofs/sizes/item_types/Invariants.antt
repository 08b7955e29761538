use Rattle.std.proofs.Common.{◌≡◌, All, map, take}
use Rattle.pc_tree.specs.Lists.{exprs_of_list}
use Rattle.pc_types.specs.Boxed.{tree_of, IsGiven}
use Rattle.pc_detail_facts.specs.Held.{known_held, module_held}
use Rattle.pc_detail_rules.specs.Operations.{types_here}
use Rattle.pc_type_details.proofs.sizes.item_types.Given as goal

abbrev pub invariant-loop-item : goal.invariant-loop-item
invariant-loop-item l = record {
  types : map tree_of l.types.items
      ≡ types_here (module_held l.facts) (known_held l.facts) (exprs_of_list (take l.item-index l.items));
  given : All IsGiven l.types.items;
}
