use Rattle.std.proofs.Common.{refl}
use Rattle.pc_detail_facts.specs.Held.{body_of, known_held, module_held}
use Rattle.pc_detail_rules.specs.Sinks.{sinks_of_body}
use Rattle.pc_flow_details.proofs.EachSink.{each_end, each_next}
use Rattle.pc_flow_details.proofs.sinks.add_functions.Goals as goal

pub loop-body-preserved : goal.loop-body-preserved
loop-body-preserved c =
    each_next c.args.facts.now (sinks_of_body (module_held c.args.facts.now) (known_held c.args.facts.now)) body_of _
    c.loop-body.body-index c.body-item.result _ _ _ c.loop-body-test.true c.body-item.is c.loop-body.invariant
    c.in_ok-add_function.ensures

pub returns : goal.returns
returns c =
    each_end c.args.facts.now (sinks_of_body (module_held c.args.facts.now) (known_held c.args.facts.now)) body_of _ _
    c.loop-body.body-index _ _ c.loop-body-test.false refl c.loop-body.invariant
