use Rattle.std.proofs.Common.{◌≡◌, List, ℕ, subst}
use Rattle.pc_tree.specs.Code.{text_of}
use Rattle.pc_report.specs.Json.{from_json, to_json}
use Rattle.pc_report.specs.Pieces.{Puts}
use Rattle.pc_report.specs.Report.{shown_flow}
use Rattle.pc_report.proofs.Underway.{puts_then}
use Rattle.pc_report.proofs.detailed_pieces.put_detailed.Goals as goal

pub returns : goal.returns
returns g c =
    let contents = g.W.Write.contents in
    let row = c.args.row.now in
    let code : Puts contents (text_of row.finding.code) c.put_str.new.device c.put_str-2.new.device c.put_str.new.self
    c.put_str-2.new.self = subst (λ (l : List ℕ). Puts contents l c.put_str.new.device c.put_str-2.new.device
    c.put_str.new.self c.put_str-2.new.self) c.text.ensures c.put_str-2.ensures in
    let from : Puts contents (from_json (shown_flow c.args.format row)) c.put_number-2.new.device c.put_from.new.device
    c.put_number-2.new.self c.put_from.new.pieces = subst (λ o. Puts contents (from_json o) c.put_number-2.new.device
    c.put_from.new.device c.put_number-2.new.self c.put_from.new.pieces) c.shown_flow.ensures c.put_from.ensures in
    let to : Puts contents (to_json (shown_flow c.args.format row)) c.put_number-4.new.device c.put_to.new.device
    c.put_number-4.new.self c.put_to.new.pieces = subst (λ o. Puts contents (to_json o) c.put_number-4.new.device
    c.put_to.new.device c.put_number-4.new.self c.put_to.new.pieces) c.shown_flow-2.ensures c.put_to.ensures in
    puts_then contents _ _ _ _ _ _ _ _ c.put_str.ensures (puts_then contents _ _ _ _ _ _ _ _ code
    (puts_then contents _ _ _ _ _ _ _ _ c.put_str-3.ensures (puts_then contents _ _ _ _ _ _ _ _ c.put_number.ensures
    (puts_then contents _ _ _ _ _ _ _ _ c.put_detail.ensures
    (puts_then contents _ _ _ _ _ _ _ _ c.put_str-4.ensures (puts_then contents _ _ _ _ _ _ _ _ c.put_number-2.ensures
    (puts_then contents _ _ _ _ _ _ _ _ from (puts_then contents _ _ _ _ _ _ _ _ c.put_str-5.ensures
    (puts_then contents _ _ _ _ _ _ _ _ c.put_number-3.ensures (puts_then contents _ _ _ _ _ _ _ _ c.put_str-6.ensures
    (puts_then contents _ _ _ _ _ _ _ _ c.put_number-4.ensures (puts_then contents _ _ _ _ _ _ _ _ to
    c.put_str-7.ensures))))))))))))
