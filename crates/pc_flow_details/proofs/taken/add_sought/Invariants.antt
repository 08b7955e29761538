use Rattle.std.proofs.Common.{Bor, List, map}
use Rattle.pc_types.specs.declared.boxed.BoxType.{BoxType}
use Rattle.std.specs.Prelude.{flat_map}
use Rattle.pc_detail_rules.specs.Sinks.{sought_in}
use Rattle.pc_detail_facts.specs.Held.{tree_lent}
use Rattle.pc_flow_details.proofs.Kept.{LeftOf}
use Rattle.pc_flow_details.proofs.taken.add_sought.Given as goal

abbrev pub invariant-loop-member : goal.invariant-loop-member
invariant-loop-member l =
    LeftOf l.facts (λ (xs : List (Bor BoxType)).
    flat_map (sought_in l.place) (map tree_lent xs)) l.member-items l.member-index l.sinks l.fn.sinks
