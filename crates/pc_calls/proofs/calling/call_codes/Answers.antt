use Rattle.std.proofs.Common.{◌∙◌, [], ap, sym}
use Rattle.std.specs.Prelude.{if◌then◌else◌}
use Rattle.pc_tree.specs.Stopping.{has_none}
use Rattle.pc_rules.specs.Computed.Findings.{once}
use Rattle.pc_calls.specs.JudgedCalls.{found_at_callee, found_at_call}
use Rattle.pc_calls.proofs.CallLabels.{codes_meant}
use Rattle.pc_calls.proofs.ErrorsOfCalls.{none_once}
use Rattle.pc_calls.proofs.calling.call_codes.Goals as goal

pub returns-then-not-are_none : goal.returns-then-not-are_none
returns-then-not-are_none g c tree =
    let os = c.args.offers.now in
    c.new.ensures.items ∙ sym (ap (λ b. once (if b then found_at_call os else [])) (sym (none_once (found_at_callee os))
    ∙ ap has_none (sym (c.deref.ensures.value ∙ c.in_ok-at_callee.ensures)) ∙ sym c.are_none.ensures
    ∙ c.if-not-are_none.true)) ∙ ap once (codes_meant tree os)

pub returns : goal.returns
returns g c tree =
    let os = c.args.offers.now in
    c.in_ok-codes.ensures ∙ sym (ap (λ b. once (if b then found_at_call os else []))
    (sym (none_once (found_at_callee os)) ∙ ap has_none (sym (c.deref.ensures.value ∙ c.in_ok-at_callee.ensures))
    ∙ sym c.are_none.ensures ∙ c.if-not-are_none.false)) ∙ ap once (codes_meant tree os)
