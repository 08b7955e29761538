use Rattle.std.proofs.Common.{◌∙◌, ap, sym}
use Rattle.pc_scope.specs.Bindings.{bodies}
use Rattle.pc_detail_texts.specs.Details as detail
use Rattle.pc_detail_texts.specs.Details.{FunctionName}
use Rattle.pc_detail_texts.specs.Mapped.{short_elsewhere}
use Rattle.pc_detail_facts.specs.Held.{module_held}
use Rattle.pc_name_details.proofs.UseSteps.{elsewhere_held, nowhere_held}
use Rattle.pc_name_details.proofs.uses.bound_elsewhere.Goals as goal

pub returns-in_ok-body_words-in-Some : goal.returns-in_ok-body_words-in-Some
returns-in_ok-body_words-in-Some c =
    let m = module_held c.args.facts.now in
    ap (λ (f : FunctionName). detail.in_function f c.in-Some.place) c.in_ok-body_words-in-Some.ensures
    ∙ ap short_elsewhere (elsewhere_held m c.args.bindings.now c.args.word.now (bodies m) _ c.requires.bound
    (sym c.in-Some.is ∙ c.get.ensures))

pub returns-in-None : goal.returns-in-None
returns-in-None c =
    let m = module_held c.args.facts.now in
    ap short_elsewhere (nowhere_held m c.args.bindings.now c.args.word.now (bodies m) c.requires.bound
    (sym c.in-None.is ∙ c.get.ensures))
