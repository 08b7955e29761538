use Rattle.std.proofs.Common.{◌≡◌, subst}
use Rattle.pc_detail_facts.specs.declared.called.CallTarget.{CallTarget}
use Rattle.std.proofs.Common.{List, map, refl}
use Rattle.pc_detail_facts.specs.Callees.{called_of}
use Rattle.std.specs.Prelude.{flat_map}
use Rattle.pc_detail_rules.specs.Sinks.{positional_on}
use Rattle.pc_source.specs.declared.place.Place.{Place}
use Rattle.pc_flow_details.specs.Kept.{first_of_both, flows_to_sinks, flows_kept}
use Rattle.pc_flow_details.proofs.Kept.{end_of, next_of}
use Rattle.pc_flow_details.proofs.argument_sinks.add_at.Goals as goal

pub loop-callee-preserved : goal.loop-callee-preserved
loop-callee-preserved c =
    let f = c.args.facts.now in
    next_of f (λ (xs : List CallTarget). flat_map (positional_on c.place-place.result c.args.position)
    (map (called_of f) xs))
    (positional_on c.place-place.result c.args.position ((called_of f) c.callee-item.result)) _
    c.loop-callee.callee-index c.callee-item.result _ _ _ refl c.loop-callee-test.true c.callee-item.is
    c.loop-callee.invariant
    c.in_ok-add_argument.ensures

pub returns : goal.returns
returns c =
    let f = c.args.facts.now in
    subst (λ (p : Place). flows_kept c.loop-callee.sinks ≡ first_of_both (flows_kept c.args.sinks.now)
    (flows_to_sinks f (flat_map (positional_on p c.args.position) (map (called_of f) c.args.called.now))))
    c.place-place.ensures
    (end_of f (λ (xs : List CallTarget). flat_map (positional_on c.place-place.result c.args.position)
    (map (called_of f) xs)) _
    c.loop-callee.callee-index _ _ refl c.loop-callee-test.false c.loop-callee.invariant)
