use Rattle.std.proofs.Common.{List, ℕ, subst}
use Rattle.std.specs.Rc.{rc_str_bytes}
use Rattle.json.specs.Print.{quoted}
use Rattle.pc_report.specs.Pieces.{Puts}
use Rattle.pc_report.specs.TypeTexts.{kind_text}
use Rattle.pc_report.proofs.Underway.{puts_then}
use Rattle.pc_report.proofs.listing_pieces.put_object.Goals as goal

pub returns : goal.returns
returns g c =
    let contents = g.W.Write.contents in
    let row = c.args.row.now in
    let kind : Puts contents (kind_text row.entry.kind) c.put_str-5.new.device c.put_str-6.new.device
    c.put_str-5.new.self c.put_str-6.new.self = subst (λ (l : List ℕ). Puts contents l c.put_str-5.new.device
    c.put_str-6.new.device c.put_str-5.new.self c.put_str-6.new.self) c.text.ensures c.put_str-6.ensures in
    let text : Puts contents (quoted (rc_str_bytes row.entry.text)) c.put_str-9.new.device c.put_quoted.new.device
    c.put_str-9.new.self c.put_quoted.new.self = subst (λ (l : List ℕ). Puts contents (quoted l) c.put_str-9.new.device
    c.put_quoted.new.device c.put_str-9.new.self c.put_quoted.new.self) c.as_str.ensures.value c.put_quoted.ensures in
    puts_then contents _ _ _ _ _ _ _ _ c.put_str.ensures
    (puts_then contents _ _ _ _ _ _ _ _ c.put_number.ensures
    (puts_then contents _ _ _ _ _ _ _ _ c.put_current_member.ensures
    (puts_then contents _ _ _ _ _ _ _ _ c.put_str-2.ensures
    (puts_then contents _ _ _ _ _ _ _ _ c.put_number-2.ensures
    (puts_then contents _ _ _ _ _ _ _ _ c.put_str-3.ensures
    (puts_then contents _ _ _ _ _ _ _ _ c.put_number-3.ensures
    (puts_then contents _ _ _ _ _ _ _ _ c.put_str-4.ensures
    (puts_then contents _ _ _ _ _ _ _ _ c.put_number-4.ensures
    (puts_then contents _ _ _ _ _ _ _ _ c.put_str-5.ensures
    (puts_then contents _ _ _ _ _ _ _ _ kind
    (puts_then contents _ _ _ _ _ _ _ _ c.put_str-7.ensures
    (puts_then contents _ _ _ _ _ _ _ _ c.put_number-5.ensures
    (puts_then contents _ _ _ _ _ _ _ _ c.put_str-8.ensures
    (puts_then contents _ _ _ _ _ _ _ _ c.put_number-6.ensures
    (puts_then contents _ _ _ _ _ _ _ _ c.put_str-9.ensures
    (puts_then contents _ _ _ _ _ _ _ _ text
    c.put_str-10.ensures))))))))))))))))
