use Rattle.std.proofs.Common.{◌∙◌, ap, map}
use Rattle.pc_detail_facts.specs.Held.{constant_lent}
use Rattle.pc_detail_rules.specs.Sinks.{sinks_of_constant}
use Rattle.pc_flow_details.proofs.EachSink.{each_end, each_next}
use Rattle.pc_flow_details.proofs.sinks.add_constants.Goals as goal

pub loop-constant-preserved : goal.loop-constant-preserved
loop-constant-preserved c =
    each_next c.args.facts.now sinks_of_constant constant_lent _
    c.loop-constant.constant-index c.constant-item.result _ _ _ c.loop-constant-test.true c.constant-item.is
    c.loop-constant.invariant c.in_ok-add_constant.ensures

pub returns : goal.returns
returns c =
    each_end c.args.facts.now sinks_of_constant constant_lent _ _
    c.loop-constant.constant-index _ _ c.loop-constant-test.false
    (ap (map constant_lent) c.deref-constant-items.ensures.value ∙ c.requires.definitions.constants)
    c.loop-constant.invariant
