use Rattle.std.proofs.Common.{◌≡◌, ◌++◌, ◌∷◌, [], List, ℕ, take, codes, decimal, sym, ap, ap₂, ◌∙◌, arith, subst}
use Rattle.std.proofs.lemmas.List.{take_all}
use Rattle.std.specs.List.{flat_map}
use Rattle.pc_report.specs.declared.report.Row.{Row}
use Rattle.pc_report.specs.Pieces.{IsOnItsWay}
use Rattle.pc_report.specs.Report.{row_text, report_text, errors_of, dynamic_count}
use Rattle.pc_report.proofs.Underway.{begun, one_more}
use Rattle.pc_report.proofs.report.Report.write_text.Goals as goal

pub loop-row-init : goal.loop-row-init
loop-row-init g c = begun g.W.Write.contents c.new-pieces.result.failed c.new-pieces.result.held.items c.args.device.now
    c.new-pieces.ensures.failed c.new-pieces.ensures.held

pub loop-row-preserved : goal.loop-row-preserved
loop-row-preserved g c =
    let format = c.args.format in
    let rows : List Row = c.rows-row-items.result.now in
    let i = c.loop-row.row-index in
    let line = λ (row : Row). row_text format row ++ 10 ∷ [] in
    subst (λ (l : List ℕ). IsOnItsWay g.W.Write.contents l c.args.device.now c.put_row.new.device c.put_row.new.pieces)
    (one_more line rows i c.row-item.result c.row-item.result c.loop-row-test.true c.row-item.is)
    (c.put_row.ensures (flat_map line (take i rows)) c.args.device.now c.loop-row.invariant)

pub returns : goal.returns
returns g c =
    let format = c.args.format in
    let rows : List Row = c.rows-row-items.result.now in
    let i = c.loop-row.row-index in
    let line = λ (row : Row). row_text format row ++ 10 ∷ [] in
    let counts = λ (errors dynamic : ℕ). codes "errors " ++ (decimal errors ++ (codes ", dynamic " ++ (decimal dynamic
    ++ 10 ∷ []))) in
    let all : take i rows ≡ rows = take_all i rows (omega arith) in
    let whole : flat_map line (take i rows) ++ counts c.errors.result c.dynamic.result ≡ report_text format
    c.args.self.now = ap (λ (l : List Row). flat_map line l ++ counts c.errors.result c.dynamic.result)
    (all ∙ c.rows-row-items.ensures) ∙ ap₂ (λ (errors dynamic : ℕ). flat_map line c.args.self.now
    ++ counts errors dynamic) c.errors.ensures c.dynamic.ensures in
    c.finish.ensures (report_text format c.args.self.now) c.args.device.now
    (subst (λ (l : List ℕ). IsOnItsWay g.W.Write.contents l c.args.device.now c.put_counts.new.device
    c.put_counts.new.pieces) whole
    (c.put_counts.ensures (flat_map line (take i rows)) c.args.device.now c.loop-row.invariant))
