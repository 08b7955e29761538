use Rattle.std.proofs.Common.{◌≡◌, ◌++◌, ◌∷◌, List, ℕ, take, sym, ap, ◌∙◌, arith, subst}
use Rattle.std.proofs.lemmas.List.{take_all}
use Rattle.std.specs.List.{flat_map}
use Rattle.pc_report.specs.declared.listing.TypeRow.{TypeRow}
use Rattle.pc_report.specs.Pieces.{Puts}
use Rattle.pc_report.specs.TypeTexts.{type_row_json, type_rows_json}
use Rattle.pc_report.proofs.TypeTexts.{rows_later}
use Rattle.pc_report.proofs.Underway.{one_more, puts_then, puts_none}
use Rattle.pc_report.proofs.listing_pieces.put_objects.Goals as goal

pub loop-row-init : goal.loop-row-init
loop-row-init g c = puts_none g.W.Write.contents c.put_object.new.device c.put_object.new.pieces

pub loop-row-preserved : goal.loop-row-preserved
loop-row-preserved g c =
    let others : List TypeRow = c.in-Some.others.now in
    let i = c.loop-row.row-index in
    let later = λ (row : TypeRow). 44 ∷ type_row_json row in
    subst (λ (l : List ℕ). Puts g.W.Write.contents l c.put_object.new.device c.put_object-in-loop-row.new.device
    c.put_object.new.pieces c.put_object-in-loop-row.new.pieces)
    (one_more later others i c.row-item.result c.row-item.result c.loop-row-test.true c.row-item.is)
    (puts_then g.W.Write.contents _ _ _ _ _ _ _ _ c.loop-row.invariant
    (puts_then g.W.Write.contents _ _ _ _ _ _ _ _ c.put_str.ensures c.put_object-in-loop-row.ensures))

pub returns : goal.returns
returns g c =
    let contents = g.W.Write.contents in
    let first : TypeRow = c.in-Some.first.now in
    let others : List TypeRow = c.in-Some.others.now in
    let i = c.loop-row.row-index in
    let all : take i others ≡ others = take_all i others (omega arith) in
    let later = λ (rows : List TypeRow). flat_map (λ (row : TypeRow). 44 ∷ type_row_json row) rows in
    let whole : type_row_json first ++ later (take i others) ≡ type_rows_json c.args.rows.now =
    ap (λ rows. type_row_json first ++ later rows) all
    ∙ sym (rows_later first others) ∙ ap type_rows_json (sym c.in-Some.ensures.cases.0) in
    subst (λ (l : List ℕ). Puts contents l c.args.device.now c.loop-row.device c.args.pieces.now c.loop-row.pieces)
    whole (puts_then contents _ _ _ _ _ _ _ _ c.put_object.ensures c.loop-row.invariant)
