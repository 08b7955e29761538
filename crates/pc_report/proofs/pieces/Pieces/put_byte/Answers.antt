use Rattle.std.proofs.Common.{◌≡◌, ◌<◌, ◌≤◌, ◌∷◌, [], List, ℕ, rules, sym, subst, arith}
use Rattle.json.specs.Print.{escape_byte}
use Rattle.pc_report.specs.Pieces.{Puts}
use Rattle.pc_report.proofs.Underway.{escape_short, escape_long, escape_plain}
use Rattle.pc_report.proofs.pieces.Pieces.put_byte.Goals as goal

pub returns-then-letter-gt0 : goal.returns-then-letter-gt0
returns-then-letter-gt0 g c =
    let is = escape_short c.args.byte c.escape_letter-letter.result c.escape_letter-letter.ensures (omega arith) in
    subst (λ (l : List ℕ). Puts g.W.Write.contents l c.args.device.now c.put.new.device c.args.self.now c.put.new.self)
    (sym is) c.put.ensures

pub returns-then-byte-lt32 : goal.returns-then-byte-lt32
returns-then-byte-lt32 g c =
    let is = escape_long c.args.byte c.escape_letter-letter.result c.hex_digit.result
    c.hex_digit-then-byte-lt32.result c.escape_letter-letter.ensures (omega arith) (omega arith) c.hex_digit.ensures
    c.hex_digit-then-byte-lt32.ensures in
    subst (λ (l : List ℕ). Puts g.W.Write.contents l c.args.device.now c.put-then-byte-lt32.new.device
    c.args.self.now c.put-then-byte-lt32.new.self) (sym is) c.put-then-byte-lt32.ensures

pub returns-else-byte-lt32 : goal.returns-else-byte-lt32
returns-else-byte-lt32 g c =
    let is = escape_plain c.args.byte c.escape_letter-letter.result c.escape_letter-letter.ensures (omega arith)
    (omega arith) in
    subst (λ (l : List ℕ). Puts g.W.Write.contents l c.args.device.now c.put-else-byte-lt32.new.device
    c.args.self.now c.put-else-byte-lt32.new.self) (sym is) c.put-else-byte-lt32.ensures
