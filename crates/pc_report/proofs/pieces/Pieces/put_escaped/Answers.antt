use Rattle.std.proofs.Common.{◌≡◌, List, ℕ, take, get_or, refl, rules, sym, arith, subst}
use Rattle.std.proofs.lemmas.List.{take_all}
use Rattle.json.specs.Print.{escape, escape_byte}
use Rattle.pc_report.specs.Pieces.{Puts}
use Rattle.pc_report.proofs.Underway.{one_more, puts_then, puts_none}
use Rattle.pc_report.proofs.pieces.Pieces.put_escaped.Goals as goal

pub returns-then-are_plain : goal.returns-then-are_plain
returns-then-are_plain g c =
    let is : escape c.args.bytes.now ≡ c.args.bytes.now = search rules in
    subst (λ (l : List ℕ). Puts g.W.Write.contents l c.args.device.now c.put.new.device c.args.self.now c.put.new.self)
    (sym is) c.put.ensures

pub loop-byte-init : goal.loop-byte-init
loop-byte-init g c = puts_none g.W.Write.contents c.args.device.now c.args.self.now

pub loop-byte-preserved : goal.loop-byte-preserved
loop-byte-preserved g c =
    let bytes : List ℕ = c.args.bytes.now in
    let i = c.loop-byte.byte-index in
    subst (λ (l : List ℕ). Puts g.W.Write.contents l c.args.device.now c.put_byte.new.device c.args.self.now
    c.put_byte.new.self) (one_more escape_byte bytes i 0 (get_or bytes i 0) c.loop-byte-test.true refl)
    (puts_then g.W.Write.contents _ _ _ _ _ _ _ _ c.loop-byte.invariant c.put_byte.ensures)

pub returns : goal.returns
returns g c =
    let bytes : List ℕ = c.args.bytes.now in
    let i = c.loop-byte.byte-index in
    let all : take i bytes ≡ bytes = take_all i bytes (omega arith) in
    subst (λ (l : List ℕ). Puts g.W.Write.contents (escape l) c.args.device.now c.loop-byte.device c.args.self.now
    c.loop-byte.self) all c.loop-byte.invariant
