use Rattle.std.proofs.Common.{◌≡◌, Option, subst}
use Rattle.std.specs.Prelude.{IfOk}
use Rattle.std.specs.Option.{option_map}
use Rattle.pc_calls.specs.JudgedCalls.{given_with}
use Rattle.pc_detail_texts.specs.Details.{Misfit}
use Rattle.pc_detail_texts.specs.Mapped.{short_misfit}
use Rattle.pc_detail_texts.specs.Shown.{misfit_of_value}
use Rattle.pc_type_details.proofs.GivenNames.{signed_called}
use Rattle.pc_type_details.proofs.given.misfit.Goals as goal

pub returns-in_default : goal.returns-in_default
returns-in_default c =
    subst (λ (w : Option Misfit). IfOk c.parameter_misfit.result (λ x. option_map misfit_of_value x ≡ option_map short_misfit w))
    (signed_called c.args.facts.now c.args.called (given_with c.args.given.now) c.in_default.not-Value)
    c.parameter_misfit.ensures
