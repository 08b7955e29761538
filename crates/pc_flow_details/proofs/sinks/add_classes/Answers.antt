use Rattle.std.proofs.Common.{◌∙◌, ap, map}
use Rattle.pc_detail_facts.specs.Held.{class_lent}
use Rattle.pc_detail_rules.specs.Sinks.{sinks_of_class}
use Rattle.pc_flow_details.proofs.EachSink.{each_end, each_next}
use Rattle.pc_flow_details.proofs.sinks.add_classes.Goals as goal

pub loop-class-preserved : goal.loop-class-preserved
loop-class-preserved c =
    each_next c.args.facts.now sinks_of_class class_lent _
    c.loop-class.class-index c.class-item.result _ _ _ c.loop-class-test.true c.class-item.is c.loop-class.invariant
    c.in_ok-add_class.ensures

pub returns : goal.returns
returns c =
    each_end c.args.facts.now sinks_of_class class_lent _ _
    c.loop-class.class-index _ _ c.loop-class-test.false
    (ap (map class_lent) c.deref-class-items.ensures.value ∙ c.requires.definitions.classes) c.loop-class.invariant
