use Rattle.std.proofs.Common.{refl}
use Rattle.pc_tree.specs.Tree.{param_of}
use Rattle.pc_detail_facts.specs.Held.{body_of, module_held}
use Rattle.pc_detail_rules.specs.Nodes.{function_name}
use Rattle.pc_detail_rules.specs.Sinks.{parameter_default}
use Rattle.pc_flow_details.proofs.EachSink.{each_end, each_next}
use Rattle.pc_flow_details.proofs.sinks.add_parameters.Goals as goal

pub loop-param-preserved : goal.loop-param-preserved
loop-param-preserved c =
    let name = function_name (module_held c.args.facts.now) (body_of c.args.body) in
    each_next c.args.facts.now (parameter_default name) param_of _
    c.loop-param.param-index c.param-item.result _ _ _ c.loop-param-test.true c.param-item.is c.loop-param.invariant
    c.in_ok-add_parameter.ensures

pub returns : goal.returns
returns c =
    let name = function_name (module_held c.args.facts.now) (body_of c.args.body) in
    each_end c.args.facts.now (parameter_default name) param_of _ _
    c.loop-param.param-index _ _ c.loop-param-test.false refl c.loop-param.invariant
