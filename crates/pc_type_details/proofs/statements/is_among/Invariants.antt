use Rattle.std.proofs.Common.{◌≡◌, drop}
use Rattle.std.specs.List.{list_any}
use Rattle.pc_types.specs.Boxed.{tree_of}
use Rattle.pc_types.specs.Join.{same_tree}
use Rattle.pc_detail_facts.specs.Held.{trees_lent}
use Rattle.pc_type_details.proofs.statements.is_among.Given as goal

abbrev pub invariant-loop-other : goal.invariant-loop-other
invariant-loop-other l = list_any (same_tree (tree_of l.ty)) (trees_lent (drop l.other-index l.types))
    ≡ list_any (same_tree (tree_of l.ty)) (trees_lent l.types)
