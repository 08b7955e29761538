use Rattle.pc_detail_facts.specs.Held.{class_lent}
use Rattle.pc_detail_rules.specs.Sinks.{sinks_of_class}
use Rattle.pc_flow_details.proofs.EachSink.{LeftOfEach}
use Rattle.pc_flow_details.proofs.sinks.add_classes.Given as goal

abbrev pub invariant-loop-class : goal.invariant-loop-class
invariant-loop-class l =
    LeftOfEach l.facts sinks_of_class class_lent l.class-items l.class-index l.sinks l.fn.sinks
