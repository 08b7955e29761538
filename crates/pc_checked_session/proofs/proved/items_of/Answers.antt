use Rattle.std.proofs.Common.{◌∙◌, ◌+◌, ℕ, List, Option, drop, map, ap, arith, subst}
use Rattle.std.proofs.lemmas.List.{take_all}
use Rattle.std.specs.Borrow.{Bor}
use Rattle.std.specs.Prelude.{option_map}
use Rattle.pc_source.specs.declared.place.Place.{Place}
use Rattle.pc_tree.specs.declared.code.Finding.{Finding}
use Rattle.pc_detail_texts.specs.Details.{Detail}
use Rattle.pc_detail_texts.specs.Sentences.{Words}
use Rattle.pc_report.specs.declared.report.Row.{Row}
use Rattle.pc_report.specs.Report.{row_findings}
use Rattle.pc_top.specs.declared.detailed.PlacedDetail.{PlacedDetail}
use Rattle.pc_top.specs.PrintedDetails.{AreLeft}
use Rattle.pc_top.proofs.DetailsLeft.{next_findings}
use Rattle.pc_top.proofs.ModuleTypes.{next_mapped}
use Rattle.pc_checked_session.specs.Found.{said_with, said_by_item, said_by_row}
use Rattle.pc_checked_session.proofs.ToldItems.{held_told}
use Rattle.pc_checked_session.proofs.proved.items_of.Goals as goal

pub loop-row-preserved : goal.loop-row-preserved
loop-row-preserved c =
    let rows : List Row = c.args.rows.now in
    let details : List PlacedDetail = c.args.details.now in
    let i = c.loop-row.row-index in
    let row : Row = c.row-item.result in
    let held = option_map (λ (p : Bor PlacedDetail). p.now) c.next_detail.result.0 in
    let turn = λ (source : List ℕ) (told : Finding → Option (Detail Words)) (all : AreLeft source told (row_findings rows) details).
    c.next_detail.ensures source told (row_findings (drop (i + 1) rows))
    (subst (λ (fs : List Finding). AreLeft source told fs c.loop-row.left.now)
    (next_findings rows i row c.loop-row-test.true c.row-item.is) (c.loop-row.invariant.rest source told all)) in
    record {
      rest = λ source told all. (turn source told all).1;
      items = λ source told all. ap (map said_by_item) c.in_ok-push.ensures.items
          ∙ next_mapped (said_by_row told) said_by_item rows c.loop-row.items.items i row c.in_ok-item_of.field-0
          (c.loop-row.invariant.items source told all) c.loop-row-test.true c.row-item.is
          (c.in_ok-item_of.ensures ∙ ap (λ (d : Option (List ℕ × List Place)). said_with d row)
          (c.in_ok-detail.ensures
          ∙ held_told source row.finding.code (told row.finding) held (turn source told all).0));
    }

pub returns : goal.returns
returns c = λ source told all.
    let rows : List Row = c.args.rows.now in
    c.loop-row.invariant.items source told all
    ∙ ap (map (said_by_row told)) (take_all c.loop-row.row-index rows (omega arith))
