use Rattle.std.proofs.Common.{◌≡◌, ◌++◌, ◌∷◌, List, ℕ, take, sym, ap, ◌∙◌, arith, subst}
use Rattle.std.proofs.lemmas.List.{take_all}
use Rattle.std.specs.List.{flat_map}
use Rattle.pc_report.specs.declared.report.Row.{Row}
use Rattle.pc_report.specs.Json.{finding_json, findings_json}
use Rattle.pc_report.specs.Pieces.{Puts}
use Rattle.pc_report.specs.Report.{shown_flow}
use Rattle.pc_report.proofs.Json.{findings_later}
use Rattle.pc_report.proofs.Underway.{one_more, puts_then, puts_none}
use Rattle.pc_report.proofs.json_pieces.put_findings.Goals as goal

pub loop-row-init : goal.loop-row-init
loop-row-init g c = puts_none g.W.Write.contents c.put_finding.new.device c.put_finding.new.pieces

pub loop-row-preserved : goal.loop-row-preserved
loop-row-preserved g c =
    let format = c.args.format in
    let others : List Row = c.in-Some.others.now in
    let i = c.loop-row.row-index in
    let later = λ (row : Row). 44 ∷ finding_json (shown_flow format row) row in
    subst (λ (l : List ℕ). Puts g.W.Write.contents l c.put_finding.new.device c.put_finding-in-loop-row.new.device
    c.put_finding.new.pieces c.put_finding-in-loop-row.new.pieces)
    (one_more later others i c.row-item.result c.row-item.result c.loop-row-test.true c.row-item.is)
    (puts_then g.W.Write.contents _ _ _ _ _ _ _ _ c.loop-row.invariant
    (puts_then g.W.Write.contents _ _ _ _ _ _ _ _ c.put_str.ensures c.put_finding-in-loop-row.ensures))

pub returns : goal.returns
returns g c =
    let contents = g.W.Write.contents in
    let format = c.args.format in
    let first : Row = c.in-Some.first.now in
    let others : List Row = c.in-Some.others.now in
    let i = c.loop-row.row-index in
    let all : take i others ≡ others = take_all i others (omega arith) in
    let later = λ (rows : List Row). flat_map (λ (row : Row). 44 ∷ finding_json (shown_flow format row) row) rows in
    let whole : finding_json (shown_flow format first) first ++ later (take i others) ≡ findings_json format
    c.args.rows.now = ap (λ rows. finding_json (shown_flow format first) first ++ later rows) all
    ∙ sym (findings_later format first others) ∙ ap (findings_json format) (sym c.in-Some.ensures.cases.0) in
    subst (λ (l : List ℕ). Puts contents l c.args.device.now c.loop-row.device c.args.pieces.now c.loop-row.pieces)
    whole (puts_then contents _ _ _ _ _ _ _ _ c.put_finding.ensures c.loop-row.invariant)
