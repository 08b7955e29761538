use Rattle.std.proofs.Common.{◌≡◌, ◌∙◌, ◌++◌, ◌+◌, ◌∷◌, [], List, ℕ, Option, codes, decimal, string_bytes, drop, sym, ap, ap₂, arith, rules, subst}
use Rattle.std.proofs.lemmas.List.{take_all}
use Rattle.std.specs.List.{flat_map}
use Rattle.std.specs.Prelude.{option_map}
use Rattle.std.specs.Borrow.{Bor}
use Rattle.pc_tree.specs.declared.code.Finding.{Finding}
use Rattle.pc_detail_texts.specs.Details.{Detail}
use Rattle.pc_detail_texts.specs.Sentences.{Words}
use Rattle.pc_report.specs.declared.report.Row.{Row}
use Rattle.pc_report.specs.Report.{row_findings}
use Rattle.pc_report.proofs.Underway.{one_more}
use Rattle.pc_top.specs.declared.detailed.PlacedDetail.{PlacedDetail}
use Rattle.pc_top.specs.DetailedTexts.{detail_in, detailed_line}
use Rattle.pc_top.specs.PrintedDetails.{AreLeft}
use Rattle.pc_top.proofs.DetailsLeft.{all_left, line_held, next_findings}
use Rattle.pc_top.proofs.detailed.DetailedReport.to_text.Goals as goal

pub loop-row-preserved : goal.loop-row-preserved
loop-row-preserved c =
    let rows : List Row = c.rows-row-items.result.now in
    let details : List PlacedDetail = c.args.self.now.details.items in
    let i = c.loop-row.row-index in
    let row : Row = c.row-item.result in
    let held = option_map (λ (p : Bor PlacedDetail). p.now) c.next_detail.result.0 in
    let turn = λ (source : List ℕ) (told : Finding → Option (Detail Words)) (all : AreLeft source told (row_findings rows) details).
    c.next_detail.ensures source told (row_findings (drop (i + 1) rows))
    (subst (λ (fs : List Finding). AreLeft source told fs c.loop-row.details.now)
    (next_findings rows i row c.loop-row-test.true c.row-item.is) (c.loop-row.invariant.left source told all)) in
    record {
      left = λ source told all. (turn source told all).1;
      text = λ source told all. c.in_ok-push_row.ensures
          ∙ ap₂ (λ (l r : List ℕ). l ++ r) (c.loop-row.invariant.text source told all)
          (line_held source told row held (turn source told all).0)
          ∙ one_more (detailed_line source told) rows i row row c.loop-row-test.true c.row-item.is;
    }

pub returns : goal.returns
returns c = λ bytes h.
    let rows : List Row = c.rows-row-items.result.now in
    let i = c.loop-row.row-index in
    let told = detail_in h.headline.whole in
    let line = detailed_line bytes told in
    let counts = λ (errors dynamic : ℕ). codes "errors " ++ (decimal errors ++ (codes ", dynamic " ++ (decimal dynamic
    ++ 10 ∷ []))) in
    let all = subst (λ (l : List Row). AreLeft bytes told (row_findings l) c.args.self.now.details.items)
    (sym c.rows-row-items.ensures) (all_left bytes c.args.self.now h) in
    let lines = c.loop-row.invariant.text bytes told all
    ∙ ap (flat_map line) (take_all i rows (omega arith) ∙ c.rows-row-items.ensures) in
    let written : string_bytes c.writeln.new.self ≡ string_bytes c.loop-row.text
    ++ counts c.errors-errors.result c.dynamic-dynamic.result = search rules in
    written ∙ ap₂ (λ (l r : List ℕ). l ++ r) lines (ap₂ counts c.errors-errors.ensures c.dynamic-dynamic.ensures)
