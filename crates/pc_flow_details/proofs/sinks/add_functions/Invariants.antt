use Rattle.pc_detail_facts.specs.Held.{body_of, known_held, module_held}
use Rattle.pc_detail_rules.specs.Sinks.{sinks_of_body}
use Rattle.pc_flow_details.proofs.EachSink.{LeftOfEach}
use Rattle.pc_flow_details.proofs.sinks.add_functions.Given as goal

abbrev pub invariant-loop-body : goal.invariant-loop-body
invariant-loop-body l =
    LeftOfEach l.facts (sinks_of_body (module_held l.facts) (known_held l.facts)) body_of
    l.bodies l.body-index l.sinks l.fn.sinks
