use Rattle.std.proofs.Common.{◌∙◌, ◌+◌, List, ℕ, Option, drop, map, sym, ap, arith, subst}
use Rattle.std.proofs.lemmas.List.{take_all}
use Rattle.std.specs.Prelude.{option_map}
use Rattle.std.specs.Borrow.{Bor}
use Rattle.pc_tree.specs.declared.code.Finding.{Finding}
use Rattle.pc_detail_texts.specs.Details.{Detail}
use Rattle.pc_detail_texts.specs.Sentences.{Words}
use Rattle.pc_report.specs.declared.detailed_pieces.ShownDetail.{ShownDetail}
use Rattle.pc_report.specs.declared.report.Row.{Row}
use Rattle.pc_report.specs.Detailed.{DetailContent, detail_content}
use Rattle.pc_report.specs.Report.{row_findings}
use Rattle.pc_top.specs.declared.detailed.PlacedDetail.{PlacedDetail}
use Rattle.pc_top.specs.DetailedTexts.{AreDetailsOfRows, content_told, detail_in}
use Rattle.pc_top.specs.PrintedDetails.{AreLeft}
use Rattle.pc_top.proofs.DetailsLeft.{all_left, next_findings, row_content_held}
use Rattle.pc_top.proofs.ModuleTypes.{next_mapped}
use Rattle.pc_top.proofs.detailed.DetailedReport.shown.Goals as goal

abbrev content_of : Option ShownDetail → Option DetailContent
content_of detail = option_map detail_content detail

pub loop-row-preserved : goal.loop-row-preserved
loop-row-preserved c =
    let rows : List Row = c.rows-row-items.result.now in
    let details : List PlacedDetail = c.args.self.now.details.items in
    let i = c.loop-row.row-index in
    let row : Row = c.row-item.result in
    let held = option_map (λ (p : Bor PlacedDetail). p.now) c.next_detail.result.0 in
    let turn = λ (source : List ℕ) (told : Finding → Option (Detail Words)) (all : AreLeft source told (row_findings rows) details).
    c.next_detail.ensures source told (row_findings (drop (i + 1) rows))
    (subst (λ (fs : List Finding). AreLeft source told fs c.loop-row.details.now)
    (next_findings rows i row c.loop-row-test.true c.row-item.is) (c.loop-row.invariant.left source told all)) in
    record {
      left = λ source told all. (turn source told all).1;
      details = λ source told all. ap (map content_of) c.in_ok-push.ensures.items
          ∙ next_mapped (λ (r : Row). content_told source told r.finding) content_of rows c.loop-row.shown.items i row
          c.in_ok-shown_of.field-0 (c.loop-row.invariant.details source told all) c.loop-row-test.true
          c.row-item.is
          (c.in_ok-shown_of.ensures ∙ row_content_held source told row held (turn source told all).0);
    }

pub returns : goal.returns
returns c = λ bytes h.
    let rows : List Row = c.rows-row-items.result.now in
    let told = detail_in h.headline.whole in
    let all = subst (λ (l : List Row). AreLeft bytes told (row_findings l) c.args.self.now.details.items)
    (sym c.rows-row-items.ensures) (all_left bytes c.args.self.now h) in
    subst (λ (l : List Row). AreDetailsOfRows bytes told l c.loop-row.shown.items)
    (take_all c.loop-row.row-index rows (omega arith) ∙ c.rows-row-items.ensures)
    (c.loop-row.invariant.details bytes told all)
