use Rattle.std.proofs.Common.{List, ℕ, subst}
use Rattle.json.specs.Print.{escape}
use Rattle.pc_report.specs.Pieces.{Puts}
use Rattle.pc_report.proofs.Underway.{puts_then}
use Rattle.pc_report.proofs.pieces.Pieces.put_quoted.Goals as goal

pub returns : goal.returns
returns g c =
    let contents = g.W.Write.contents in
    let escaped : Puts contents (escape c.args.text.now) c.put_str.new.device c.put_escaped.new.device
    c.put_str.new.self c.put_escaped.new.self = subst (λ (l : List ℕ). Puts contents (escape l) c.put_str.new.device
    c.put_escaped.new.device c.put_str.new.self c.put_escaped.new.self) c.as_bytes.ensures.value
    c.put_escaped.ensures in
    puts_then contents _ _ _ _ _ _ _ _ c.put_str.ensures (puts_then contents _ _ _ _ _ _ _ _ escaped
    c.put_str-2.ensures)
