use Rattle.std.proofs.Common.{ap, map}
use Rattle.pc_tree.specs.Tree.{class_of, member_of}
use Rattle.pc_detail_rules.specs.Sinks.{default_of_field}
use Rattle.pc_flow_details.proofs.EachSink.{each_end, each_next}
use Rattle.pc_flow_details.proofs.sinks.add_class.Goals as goal

pub loop-member-preserved : goal.loop-member-preserved
loop-member-preserved c =
    each_next c.args.facts.now (default_of_field (class_of c.args.class.now).name.text) member_of _
    c.loop-member.member-index c.member-item.result _ _ _ c.loop-member-test.true c.member-item.is
    c.loop-member.invariant c.in_ok-add_member.ensures

pub returns : goal.returns
returns c =
    each_end c.args.facts.now (default_of_field (class_of c.args.class.now).name.text) member_of _ _
    c.loop-member.member-index _ _ c.loop-member-test.false
    (ap (map member_of) c.deref-member-items.ensures.value) c.loop-member.invariant
