use Rattle.std.proofs.Common.{◌≡◌, ◌++◌, ◌∷◌, List, take, arith, sym, ap, ap₂, ◌∙◌, append_assoc, string_bytes}
use Rattle.std.proofs.lemmas.List.{take_all}
use Rattle.std.specs.List.{flat_map}
use Rattle.pc_report.specs.declared.report.Row.{Row}
use Rattle.pc_report.specs.Json.{finding_json, findings_json}
use Rattle.pc_report.specs.Report.{shown_flow}
use Rattle.pc_report.proofs.Json.{findings_later}
use Rattle.pc_report.proofs.object.write_findings.Goals as goal

pub returns-after-loop-row-clause-text : goal.returns-after-loop-row-clause-text
returns-after-loop-row-clause-text c =
    let format = c.args.format in
    let first : Row = c.in-Some.first.now in
    let others : List Row = c.in-Some.others.now in
    let old = string_bytes c.args.text.now in
    let all : take c.loop-row.row-index others ≡ others = take_all c.loop-row.row-index others (omega arith) in
    let later = λ (rows : List Row). flat_map (λ (row : Row). 44 ∷ finding_json (shown_flow format row) row) rows in
    c.loop-row.invariant.text ∙ ap₂ (λ x rows. x ++ later rows) c.in_ok-write_finding.ensures.text all
    ∙ append_assoc old (finding_json (shown_flow format first) first) (later others)
    ∙ ap (λ x. old ++ x) (sym (findings_later format first others)
    ∙ ap (findings_json format) (sym c.in-Some.ensures.cases.0))
