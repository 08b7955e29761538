use Rattle.std.proofs.Common.{◌≡◌, ◌∙◌, None, Option, Some, ap}
use Rattle.std.proofs.lemmas.Result.{IfOk-weaker}
use Rattle.serde_json.specs.Data.{object}
use Rattle.serde_json.specs.View.{view}
use Rattle.pc_report.specs.Json.{finding_data, finding_members}
use Rattle.pc_report.specs.declared.flow.FlowTexts.{FlowTexts}
use Rattle.pc_report.proofs.object.finding_value.Goals as goal

pub returns-in-None-clause-value : goal.returns-in-None-clause-value
returns-in-None-clause-value c =
    let row = c.args.row.now in
    IfOk-weaker c.value_without_flow.result (λ v. view v ≡ object (finding_members None row))
    (λ v. view v ≡ finding_data c.args.format row)
    (λ v e. e ∙ ap (λ (flow : Option FlowTexts). object (finding_members flow row)) c.in-None.ensures)
    c.value_without_flow.ensures.value

pub returns-in-Some-clause-value : goal.returns-in-Some-clause-value
returns-in-Some-clause-value c =
    let row = c.args.row.now in
    IfOk-weaker c.value_with_flow.result (λ v. view v ≡ object (finding_members (Some c.in-Some.flow.now) row))
    (λ v. view v ≡ finding_data c.args.format row)
    (λ v e. e ∙ ap (λ (flow : Option FlowTexts). object (finding_members flow row)) c.in-Some.ensures)
    c.value_with_flow.ensures.value
