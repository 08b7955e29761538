use Rattle.std.proofs.Common.{◌∙◌, ap, sym}
use Rattle.std.specs.Prelude.{option_map}
use Rattle.pc_detail_texts.specs.Shown.{misfit_of_value}
use Rattle.pc_detail_facts.specs.Callees.{called_of}
use Rattle.pc_detail_facts.specs.Held.{text_held}
use Rattle.pc_type_details.proofs.CallsShown.{call_shown}
use Rattle.pc_type_details.proofs.calls.misfit_detail.Goals as goal

pub returns-in_ok-what-in-Some : goal.returns-in_ok-what-in-Some
returns-in_ok-what-in-Some c =
    let f = c.args.facts.now in
    call_shown (text_held f) (called_of f c.args.called).what c.in_ok-what-in-Some.what c.in-Some.misfit _
    c.in_ok-what-in-Some.ensures (ap (option_map misfit_of_value) (sym c.in-Some.is) ∙ c.in_ok-misfit.ensures)
