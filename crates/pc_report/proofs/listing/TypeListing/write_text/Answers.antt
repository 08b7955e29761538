use Rattle.std.proofs.Common.{◌≡◌, ◌++◌, ◌∷◌, [], List, ℕ, take, ap, ◌∙◌, arith, subst}
use Rattle.std.proofs.lemmas.List.{take_all}
use Rattle.std.specs.List.{flat_map}
use Rattle.pc_report.specs.declared.listing.TypeRow.{TypeRow}
use Rattle.pc_report.specs.Pieces.{IsOnItsWay}
use Rattle.pc_report.specs.TypeTexts.{type_row_text, types_text}
use Rattle.pc_report.proofs.Underway.{begun, one_more}
use Rattle.pc_report.proofs.listing.TypeListing.write_text.Goals as goal

pub loop-row-init : goal.loop-row-init
loop-row-init g c = begun g.W.Write.contents c.new-pieces.result.failed c.new-pieces.result.held.items c.args.device.now
    c.new-pieces.ensures.failed c.new-pieces.ensures.held

pub loop-row-preserved : goal.loop-row-preserved
loop-row-preserved g c =
    let rows : List TypeRow = c.rows-row-items.result.now in
    let i = c.loop-row.row-index in
    let line = λ (row : TypeRow). type_row_text row ++ 10 ∷ [] in
    subst (λ (l : List ℕ). IsOnItsWay g.W.Write.contents l c.args.device.now c.put_line.new.device
    c.put_line.new.pieces)
    (one_more line rows i c.row-item.result c.row-item.result c.loop-row-test.true c.row-item.is)
    (c.put_line.ensures (flat_map line (take i rows)) c.args.device.now c.loop-row.invariant)

pub returns : goal.returns
returns g c =
    let rows : List TypeRow = c.rows-row-items.result.now in
    let i = c.loop-row.row-index in
    let line = λ (row : TypeRow). type_row_text row ++ 10 ∷ [] in
    let all : take i rows ≡ rows = take_all i rows (omega arith) in
    let whole : flat_map line (take i rows) ≡ types_text c.args.self.now =
    ap (λ (l : List TypeRow). flat_map line l) (all ∙ c.rows-row-items.ensures) in
    c.finish.ensures (types_text c.args.self.now) c.args.device.now
    (subst (λ (l : List ℕ). IsOnItsWay g.W.Write.contents l c.args.device.now c.loop-row.device
    c.loop-row.pieces) whole c.loop-row.invariant)
