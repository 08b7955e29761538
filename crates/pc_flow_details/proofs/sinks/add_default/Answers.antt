use Rattle.std.proofs.Common.{Option, ap}
use Rattle.pc_tree.specs.Tree.{option_literal_of}
use Rattle.pc_tree.specs.declared.tree.Literal.{Literal as RustLiteral}
use Rattle.std.specs.Option.{option_map}
use Rattle.pc_detail_facts.specs.Annotated.{annotation_lent}
use Rattle.pc_flow_details.specs.Goes.{sink_held}
use Rattle.pc_flow_details.specs.Kept.{flows_kept}
use Rattle.pc_detail_rules.specs.Sinks.{default_sink}
use Rattle.pc_flow_details.proofs.Arguments.{nothing_into}
use Rattle.pc_flow_details.proofs.sinks.add_default.Goals as goal

pub returns-in-None : goal.returns-in-None
returns-in-None c =
    let f = c.args.facts.now in
    let s = sink_held f c.args.sink in
    nothing_into f (flows_kept c.args.sinks.now) (default_sink s (option_map annotation_lent c.args.written)
    (option_literal_of c.args.default.now)) (ap (λ (o : Option RustLiteral). default_sink s
    (option_map annotation_lent c.args.written) (option_literal_of o)) c.in-None.is)
