use Rattle.pc_tree.specs.Tree.{class_of, member_of}
use Rattle.pc_detail_rules.specs.Sinks.{default_of_field}
use Rattle.pc_flow_details.proofs.EachSink.{LeftOfEach}
use Rattle.pc_flow_details.proofs.sinks.add_class.Given as goal

abbrev pub invariant-loop-member : goal.invariant-loop-member
invariant-loop-member l =
    LeftOfEach l.facts (default_of_field (class_of l.class).name.text) member_of
    l.member-items l.member-index l.sinks l.fn.sinks
