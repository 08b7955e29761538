use Rattle.std.proofs.Common.{◌≡◌, ◌∙◌, List, ap, map, subst, sym}
use Rattle.pc_report.specs.declared.report.Row.{Row}
use Rattle.pc_report.specs.Report.{row_findings}
use Rattle.pc_top.specs.declared.detailed.PlacedDetail.{PlacedDetail}
use Rattle.pc_top.specs.DetailedTexts.{detail_in}
use Rattle.pc_top.specs.PrintedDetails.{AreLeft}
use Rattle.pc_top.proofs.ToldRows.{all_left_within}
use Rattle.pc_checked_session.specs.Found.{said_by_row, told_limit, told_of_rows}
use Rattle.pc_checked_session.proofs.proved.outcome_of.Goals as goal

pub returns : goal.returns
returns c = λ text h.
    let reported : List Row = c.args.found.report in
    let told = told_of_rows text reported (detail_in h.headline.whole) in
    let rows : c.rows.result.now ≡ reported = c.rows.ensures ∙ c.report.ensures in
    let left = subst (λ (l : List Row). AreLeft text told (row_findings l) c.details.result.now) (sym rows)
    (subst (λ (ps : List PlacedDetail). AreLeft text told (row_findings reported) ps)
    (sym c.details.ensures) (all_left_within text (told_limit text) c.args.found h)) in
    (reported, h.headline, c.in_ok-items.ensures text told left ∙ ap (map (said_by_row told)) rows)
