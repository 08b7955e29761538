use Rattle.pc_tree.specs.Tree.{param_of}
use Rattle.pc_detail_facts.specs.Held.{body_of, module_held}
use Rattle.pc_detail_rules.specs.Nodes.{function_name}
use Rattle.pc_detail_rules.specs.Sinks.{parameter_default}
use Rattle.pc_flow_details.proofs.EachSink.{LeftOfEach}
use Rattle.pc_flow_details.proofs.sinks.add_parameters.Given as goal

abbrev pub invariant-loop-param : goal.invariant-loop-param
invariant-loop-param l =
    LeftOfEach l.facts (parameter_default (function_name (module_held l.facts) (body_of l.body))) param_of
    l.params l.param-index l.sinks l.fn.sinks
