use Rattle.std.proofs.Common.{Bor, List, map}
use Rattle.pc_types.specs.declared.boxed.BoxType.{BoxType}
use Rattle.pc_tree.specs.Tree.{expr_of}
use Rattle.std.specs.Prelude.{flat_map}
use Rattle.pc_detail_rules.specs.Sinks.{index_in}
use Rattle.pc_detail_facts.specs.Held.{module_held, tree_lent}
use Rattle.pc_flow_details.proofs.Kept.{LeftOf}
use Rattle.pc_flow_details.proofs.taken.add_index.Given as goal

abbrev pub invariant-loop-member : goal.invariant-loop-member
invariant-loop-member l =
    LeftOf l.facts (λ (xs : List (Bor BoxType)).
    flat_map (index_in (module_held l.facts) (expr_of l.index)) (map tree_lent xs)) l.member-items
    l.member-index l.sinks l.fn.sinks
