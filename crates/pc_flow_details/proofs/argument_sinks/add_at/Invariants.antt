use Rattle.pc_detail_facts.specs.declared.called.CallTarget.{CallTarget}
use Rattle.std.proofs.Common.{List, map}
use Rattle.pc_detail_facts.specs.Callees.{called_of}
use Rattle.std.specs.Prelude.{flat_map}
use Rattle.pc_detail_rules.specs.Sinks.{positional_on}
use Rattle.pc_flow_details.proofs.Kept.{LeftOf}
use Rattle.pc_flow_details.proofs.argument_sinks.add_at.Given as goal

abbrev pub invariant-loop-callee : goal.invariant-loop-callee
invariant-loop-callee l =
    LeftOf l.facts (λ (xs : List (CallTarget)).
    flat_map (positional_on l.place l.position) (map (called_of l.facts) xs)) l.called l.callee-index l.sinks l.fn.sinks
