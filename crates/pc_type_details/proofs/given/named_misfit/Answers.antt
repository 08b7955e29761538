use Rattle.std.proofs.Common.{◌∙◌, ap, sym}
use Rattle.std.specs.Option.{option_map}
use Rattle.pc_detail_texts.specs.Mapped.{short_misfit}
use Rattle.pc_detail_facts.specs.Callees.{parameters_called}
use Rattle.pc_type_details.proofs.GivenNames.{name_fits, name_misfits, named_ended}
use Rattle.pc_type_details.proofs.given.named_misfit.Goals as goal

pub loop-word-preserved : goal.loop-word-preserved
loop-word-preserved c =
    let ps = parameters_called c.args.facts.now c.args.called in
    name_fits c.args.given.now.positional ps c.as_slice-word-items.result.now c.loop-word.word-index _
    c.loop-word-test.true c.copied-position.result
    (c.copied-position.ensures ∙ c.get.ensures.value ∙ c.requires.at _) _ c.in_ok-misfit.ensures
    (sym c.is_some.ensures ∙ c.if-is_some.false)
    ∙ c.loop-word.invariant

pub returns-then-is_some : goal.returns-then-is_some
returns-then-is_some c =
    let ps = parameters_called c.args.facts.now c.args.called in
    name_misfits c.args.given.now.positional ps c.as_slice-word-items.result.now c.loop-word.word-index _
    c.loop-word-test.true c.copied-position.result
    (c.copied-position.ensures ∙ c.get.ensures.value ∙ c.requires.at _) _ c.in_ok-misfit.ensures
    (sym c.is_some.ensures ∙ c.if-is_some.true)
    ∙ ap (option_map short_misfit) c.loop-word.invariant

pub returns : goal.returns
returns c =
    ap (option_map short_misfit) (sym (named_ended c.args.given.now.positional
    (parameters_called c.args.facts.now c.args.called) c.as_slice-word-items.result.now c.loop-word.word-index
    c.loop-word-test.false) ∙ c.loop-word.invariant)
