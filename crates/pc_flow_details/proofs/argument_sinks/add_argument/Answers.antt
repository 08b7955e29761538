use Rattle.std.proofs.Common.{◌≡◌, ◌∙◌, List, sym, ap, ap₂, subst}
use Rattle.std.specs.Prelude.{OnOk, slice_get}
use Rattle.std.specs.Option.{option_map}
use Rattle.pc_types.specs.Boxed.{tree_of}
use Rattle.pc_detail_facts.specs.Callees.{called_of, parameters_in, type_of_parameter}
use Rattle.pc_flow_details.specs.Goes.{sink_of_callee}
use Rattle.pc_flow_details.specs.Kept.{first_of_both, flows_to_sinks, flows_kept}
use Rattle.pc_detail_rules.specs.Sinks.{SinkAt, positional_on}
use Rattle.pc_detail_rules.specs.Written.{written_at}
use Rattle.pc_flow_details.proofs.Arguments.{held_none, nothing_into, positional_is, sinks_typed, unflowing}
use Rattle.pc_flow_details.proofs.argument_sinks.add_argument.Goals as goal

pub returns-then-not-has_flow : goal.returns-then-not-has_flow
returns-then-not-has_flow c =
    let f = c.args.facts.now in
    let called = called_of f c.args.called in
    let place = c.args.place in
    let o = type_of_parameter (slice_get (parameters_in called.signature) c.args.position) in
    let s = sink_of_callee f c.args.called c.args.position in
    let a = written_at called.annotations c.args.position in
    let x = flows_kept c.args.sinks.now in
    subst (λ (l : List SinkAt). x ≡ first_of_both x (flows_to_sinks f l))
    (sym (positional_is place c.args.position called.what called.annotations called.signature))
    (unflowing f place s a o x (held_none f.known.now place (sym c.has_flow.ensures ∙ c.if-not-has_flow.true)))

pub returns-in-Some : goal.returns-in-Some
returns-in-Some c =
    let f = c.args.facts.now in
    let called = called_of f c.args.called in
    let place = c.args.place in
    let s = sink_of_callee f c.args.called c.args.position in
    subst (λ (l : List SinkAt). OnOk c.add_sink.result (flows_kept c.add_sink.new.sinks
    ≡ first_of_both (flows_kept c.args.sinks.now) (flows_to_sinks f l)))
    (ap₂ (sinks_typed place s) c.annotation_at.ensures
    (ap (option_map tree_of) (sym c.in-Some.is) ∙ c.in_ok-ty.ensures)
    ∙ sym (positional_is place c.args.position called.what called.annotations called.signature)) c.add_sink.ensures

pub returns-in-None : goal.returns-in-None
returns-in-None c =
    let f = c.args.facts.now in
    let called = called_of f c.args.called in
    let s = sink_of_callee f c.args.called c.args.position in
    nothing_into f (flows_kept c.args.sinks.now) (positional_on c.args.place c.args.position called)
    (positional_is c.args.place c.args.position called.what called.annotations called.signature
    ∙ sym (ap (sinks_typed c.args.place s (written_at called.annotations c.args.position)) (ap (option_map tree_of) (sym c.in-None.is) ∙ c.in_ok-ty.ensures)))
