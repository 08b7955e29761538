use Rattle.pc_flow_details.proofs.WholeSinks.{all_sinks, dynamic_kept, five, from_none, none_got, wrong_kept}
use Rattle.pc_flow_details.proofs.sink.Sinks.of.Goals as goal

pub returns-clause-wrong : goal.returns-clause-wrong
returns-clause-wrong c =
    let f = c.args.facts.now in
    wrong_kept f c.search_bodies.new.sinks (five f _ _ _ _ _ _ _ _ _ _ _ _ (all_sinks f _ c.requires.bodies)
    c.in_ok-add_constants.ensures c.in_ok-add_classes.ensures c.in_ok-add_functions.ensures
    c.in_ok-search_constants.ensures c.in_ok-search_bodies.ensures (from_none f _ _
    (none_got c.new-wrong.result c.new-wrong.ensures.empty)
    (none_got c.new-dynamic.result c.new-dynamic.ensures.empty)))

pub returns-clause-dynamic : goal.returns-clause-dynamic
returns-clause-dynamic c =
    let f = c.args.facts.now in
    dynamic_kept f c.search_bodies.new.sinks (five f _ _ _ _ _ _ _ _ _ _ _ _ (all_sinks f _ c.requires.bodies)
    c.in_ok-add_constants.ensures c.in_ok-add_classes.ensures c.in_ok-add_functions.ensures
    c.in_ok-search_constants.ensures c.in_ok-search_bodies.ensures (from_none f _ _
    (none_got c.new-wrong.result c.new-wrong.ensures.empty)
    (none_got c.new-dynamic.result c.new-dynamic.ensures.empty)))
