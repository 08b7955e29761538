use Rattle.std.proofs.Common.{◌++◌, ap, ◌∙◌, string_bytes}
use Rattle.serde_json.specs.View.{view}
use Rattle.pc_report.proofs.Json.{finding_printed}
use Rattle.pc_report.proofs.object.write_finding.Goals as goal

pub returns-clause-text : goal.returns-clause-text
returns-clause-text c =
    let printed = finding_printed c.args.format c.args.row.now (view c.in_ok-value.value)
    (string_bytes c.in_ok-to_string.field-0) c.in_ok-value.ensures.value c.in_ok-to_string.ensures.text in
    c.in_ok-push_str.ensures.bytes ∙ ap (λ x. string_bytes c.args.text.now ++ x) (c.as_str.ensures.value ∙ printed)
