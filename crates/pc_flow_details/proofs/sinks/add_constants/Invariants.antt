use Rattle.pc_detail_facts.specs.Held.{constant_lent}
use Rattle.pc_detail_rules.specs.Sinks.{sinks_of_constant}
use Rattle.pc_flow_details.proofs.EachSink.{LeftOfEach}
use Rattle.pc_flow_details.proofs.sinks.add_constants.Given as goal

abbrev pub invariant-loop-constant : goal.invariant-loop-constant
invariant-loop-constant l =
    LeftOfEach l.facts sinks_of_constant constant_lent l.constant-items l.constant-index l.sinks l.fn.sinks
