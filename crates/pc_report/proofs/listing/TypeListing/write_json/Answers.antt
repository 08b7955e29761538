use Rattle.std.proofs.Common.{[], List, ℕ, subst}
use Rattle.pc_report.specs.declared.listing.TypeRow.{TypeRow}
use Rattle.pc_report.specs.Pieces.{Puts}
use Rattle.pc_report.specs.TypeTexts.{type_rows_json, types_json}
use Rattle.pc_report.proofs.Underway.{begun, puts_then}
use Rattle.pc_report.proofs.listing.TypeListing.write_json.Goals as goal

pub returns : goal.returns
returns g c =
    let contents = g.W.Write.contents in
    let rows = c.args.self.now in
    let start = c.args.device.now in
    let objects : Puts contents (type_rows_json rows) c.put_str.new.device c.put_objects.new.device
    c.put_str.new.self c.put_objects.new.pieces = subst (λ (l : List TypeRow). Puts contents (type_rows_json l)
    c.put_str.new.device c.put_objects.new.device c.put_str.new.self c.put_objects.new.pieces) c.rows.ensures
    c.put_objects.ensures in
    let all = puts_then contents _ _ _ _ _ _ _ _ c.put_str.ensures (puts_then contents _ _ _ _ _ _ _ _ objects
    c.put_str-2.ensures) in
    c.finish.ensures (types_json rows) start (all [] start (begun contents c.new-pieces.result.failed
    c.new-pieces.result.held.items start c.new-pieces.ensures.failed c.new-pieces.ensures.held))
