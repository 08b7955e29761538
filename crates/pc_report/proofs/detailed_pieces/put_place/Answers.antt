use Rattle.pc_report.proofs.Underway.{puts_then}
use Rattle.pc_report.proofs.detailed_pieces.put_place.Goals as goal

pub returns : goal.returns
returns g c =
    let contents = g.W.Write.contents in
    puts_then contents _ _ _ _ _ _ _ _ c.put_str.ensures (puts_then contents _ _ _ _ _ _ _ _ c.put_number.ensures
    (puts_then contents _ _ _ _ _ _ _ _ c.put_str-2.ensures (puts_then contents _ _ _ _ _ _ _ _ c.put_number-2.ensures
    c.put_str-3.ensures)))
