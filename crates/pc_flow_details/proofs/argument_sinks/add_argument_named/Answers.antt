use Rattle.std.proofs.Common.{◌≡◌, ◌∙◌, List, sym, ap, subst}
use Rattle.std.specs.Prelude.{OnOk}
use Rattle.pc_source.specs.declared.place.Place.{Place}
use Rattle.pc_tree.specs.Depth.{place_of}
use Rattle.pc_tree.specs.Tree.{expr_of, name_of}
use Rattle.pc_rules.specs.Calls.{index_of_parameter}
use Rattle.pc_detail_facts.specs.Callees.{called_of, parameters_in}
use Rattle.pc_flow_details.specs.Kept.{first_of_both, flows_to_sinks, flows_kept}
use Rattle.pc_detail_rules.specs.Sinks.{SinkAt, named_on, positional_on}
use Rattle.pc_flow_details.proofs.Arguments.{named_is, named_none, nothing_into}
use Rattle.pc_flow_details.proofs.argument_sinks.add_argument_named.Goals as goal

pub returns-in-Some : goal.returns-in-Some
returns-in-Some c =
    let f = c.args.facts.now in
    let called = called_of f c.args.called in
    let ps = parameters_in called.signature in
    let k = c.in-Some.position in
    let place = place_of (expr_of c.args.keyword.now.value) in
    let word = (name_of c.args.keyword.now.name).text in
    subst (λ (l : List SinkAt). OnOk c.add_argument.result (flows_kept c.add_argument.new.sinks
    ≡ first_of_both (flows_kept c.args.sinks.now) (flows_to_sinks f l)))
    (ap (λ (p : Place). positional_on p k called) c.place.ensures
    ∙ named_is place word called.what called.annotations called.signature k
    (sym c.in-Some.is ∙ c.position_of.ensures ∙ ap (index_of_parameter ps) c.as_str.ensures.value))
    c.add_argument.ensures

pub returns-in-None : goal.returns-in-None
returns-in-None c =
    let f = c.args.facts.now in
    let called = called_of f c.args.called in
    let ps = parameters_in called.signature in
    let place = place_of (expr_of c.args.keyword.now.value) in
    let word = (name_of c.args.keyword.now.name).text in
    nothing_into f (flows_kept c.args.sinks.now) (named_on place word called)
    (named_none place word called.what called.annotations called.signature
    (sym c.in-None.is ∙ c.position_of.ensures ∙ ap (index_of_parameter ps) c.as_str.ensures.value))
