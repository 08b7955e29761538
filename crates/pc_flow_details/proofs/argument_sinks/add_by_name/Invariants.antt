use Rattle.pc_detail_facts.specs.declared.called.CallTarget.{CallTarget}
use Rattle.std.proofs.Common.{List, map}
use Rattle.pc_detail_facts.specs.Callees.{called_of}
use Rattle.pc_tree.specs.Tree.{expr_of, name_of}
use Rattle.std.specs.Prelude.{flat_map}
use Rattle.pc_detail_rules.specs.Sinks.{named_on}
use Rattle.pc_tree.specs.Depth.{place_of}
use Rattle.pc_flow_details.proofs.Kept.{LeftOf}
use Rattle.pc_flow_details.proofs.argument_sinks.add_by_name.Given as goal

abbrev pub invariant-loop-callee : goal.invariant-loop-callee
invariant-loop-callee l =
    LeftOf l.facts (λ (xs : List (CallTarget)).
    flat_map (named_on (place_of (expr_of l.keyword.value)) (name_of l.keyword.name).text)
    (map (called_of l.facts) xs)) l.called l.callee-index l.sinks l.fn.sinks
