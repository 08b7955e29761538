use Rattle.std.proofs.Common.{◌∙◌, ap, sym}
use Rattle.std.specs.Prelude.{slice_get}
use Rattle.pc_detail_texts.specs.Shown.{callable_of_value, words}
use Rattle.pc_detail_texts.specs.Shortened.{shortened}
use Rattle.pc_detail_facts.specs.Callees.{called_of, name_of_parameter, parameters_called, takes_names_in}
use Rattle.pc_detail_facts.specs.Held.{text_held}
use Rattle.pc_flow_details.proofs.SinksShown.{argument_shown, parameter_shown}
use Rattle.pc_flow_details.proofs.sink.parameter_sink.Goals as goal

pub returns-then-not-takes_names : goal.returns-then-not-takes_names
returns-then-not-takes_names c =
    let f = c.args.facts.now in
    let called = called_of f c.args.called in
    argument_shown (text_held f) (takes_names_in called.signature)
    (name_of_parameter (slice_get (parameters_called f c.args.called) c.args.position)) called.what
    (callable_of_value c.in_ok-callable.callable) c.in_ok-callable.ensures
    (sym (c.takes_names.ensures f) ∙ c.if-not-takes_names.true)

pub returns : goal.returns
returns c =
    let f = c.args.facts.now in
    let called = called_of f c.args.called in
    parameter_shown (text_held f) (takes_names_in called.signature)
    (name_of_parameter (slice_get (parameters_called f c.args.called) c.args.position)) called.what
    (callable_of_value c.in_ok-callable.callable) c.in_ok-callable.ensures (words c.in_ok-name.name)
    (sym (c.takes_names.ensures f) ∙ c.if-not-takes_names.false)
    (c.in_ok-name.ensures ∙ ap shortened c.name_at.ensures)
