use Rattle.std.proofs.Common.{◌≡◌, ◌∙◌, ◌++◌, ◌+◌, [], List, ℕ, drop, length, refl, sym, ap, arith, rules, subst, append-nil}
use Rattle.std.proofs.lemmas.List.{drop_all}
use Rattle.pc_report.specs.declared.report.Row.{Row}
use Rattle.pc_report.specs.Detailed.{detailed_findings, finding_with_detail, further_findings, detail_at}
use Rattle.pc_report.specs.Pieces.{Puts}
use Rattle.pc_report.specs.Report.{shown_flow}
use Rattle.pc_report.proofs.Detailed.{after_comma, finding_more}
use Rattle.pc_report.proofs.Underway.{puts_then, puts_none}
use Rattle.pc_report.proofs.detailed_pieces.put_all_detailed.Goals as goal

pub loop-row-init : goal.loop-row-init
loop-row-init g c = record {
  number = refl;
  put = ([], puts_none g.W.Write.contents c.put_detailed.new.device c.put_detailed.new.pieces, refl);
}

pub loop-row-preserved : goal.loop-row-preserved
loop-row-preserved g c =
    let contents = g.W.Write.contents in
    let format = c.args.format in
    let details = c.args.details.now in
    let i = c.loop-row.row-index in
    let row : Row = c.row-item.result in
    let told = c.loop-row.invariant.put in
    let one : Puts contents (finding_with_detail (shown_flow format row) (detail_at details (i + 1)) row)
    c.put_str.new.device c.put_detailed-in-loop-row.new.device c.put_str.new.self
    c.put_detailed-in-loop-row.new.pieces =
    subst (λ (d : _). Puts contents (finding_with_detail (shown_flow format row) d row)
    c.put_str.new.device c.put_detailed-in-loop-row.new.device c.put_str.new.self
    c.put_detailed-in-loop-row.new.pieces)
    (c.detail_at-detail.ensures ∙ ap (detail_at details) c.loop-row.invariant.number)
    c.put_detailed-in-loop-row.ensures in
    record {
      number = omega (arith, c.loop-row.invariant.number);
      put = (
        told.0 ++ after_comma format details (i + 1) row,
        puts_then contents _ _ _ _ _ _ _ _ told.1 (puts_then contents _ _ _ _ _ _ _ _ c.put_str.ensures one),
        finding_more format details c.in-Some.others.now i row told.0 _ c.loop-row-test.true c.row-item.is told.2,
      );
    }

pub returns : goal.returns
returns g c =
    let contents = g.W.Write.contents in
    let format = c.args.format in
    let details = c.args.details.now in
    let first : Row = c.in-Some.first.now in
    let others : List Row = c.in-Some.others.now in
    let i = c.loop-row.row-index in
    let told = c.loop-row.invariant.put in
    let left : drop i others ≡ [] = drop_all i others (omega arith) in
    let done : told.0 ≡ further_findings format details 1 others =
    sym (append-nil told.0) ∙ ap (λ rows. told.0 ++ further_findings format details (i + 1) rows) (sym left)
    ∙ told.2 in
    let one : Puts contents (finding_with_detail (shown_flow format first) (detail_at details 0) first)
    c.args.device.now c.put_detailed.new.device c.args.pieces.now c.put_detailed.new.pieces =
    subst (λ (d : _). Puts contents (finding_with_detail (shown_flow format first) d first)
    c.args.device.now c.put_detailed.new.device c.args.pieces.now c.put_detailed.new.pieces)
    c.detail_at.ensures c.put_detailed.ensures in
    let whole : finding_with_detail (shown_flow format first) (detail_at details 0) first ++ told.0
    ≡ detailed_findings format details c.args.rows.now =
    ap (λ l. finding_with_detail (shown_flow format first) (detail_at details 0) first ++ l) done
    ∙ ap (detailed_findings format details) (sym c.in-Some.ensures.cases.0) in
    subst (λ (l : List ℕ). Puts contents l c.args.device.now c.loop-row.device c.args.pieces.now c.loop-row.pieces)
    whole (puts_then contents _ _ _ _ _ _ _ _ one told.1)
