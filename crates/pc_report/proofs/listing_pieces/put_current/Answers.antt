use Rattle.std.proofs.Common.{◌≡◌, List, ℕ, Some, codes, rules, sym, ap, ◌∙◌, subst}
use Rattle.std.specs.Rc.{rc_str_bytes}
use Rattle.std.specs.declared.rc.RcStr.{RcStr}
use Rattle.std.specs.declared.alloc.Global.{Global}
use Rattle.pc_report.specs.Pieces.{Puts}
use Rattle.pc_report.specs.TypeTexts.{current_text}
use Rattle.pc_report.proofs.Underway.{puts_then}
use Rattle.pc_report.proofs.listing_pieces.put_current.Goals as goal

pub returns-in-Some : goal.returns-in-Some
returns-in-Some g c =
    let contents = g.W.Write.contents in
    let shown : RcStr Global = c.in-Some.text in
    let sign : Puts contents (codes " = ") c.args.device.now c.put_str.new.device c.args.pieces.now c.put_str.new.self =
    subst (λ (l : List ℕ). Puts contents l c.args.device.now c.put_str.new.device c.args.pieces.now c.put_str.new.self)
    c.current_sign.ensures c.put_str.ensures in
    let text : Puts contents (rc_str_bytes shown) c.put_str.new.device c.put_str-in-Some.new.device
    c.put_str.new.self c.put_str-in-Some.new.self = subst (λ (l : List ℕ). Puts contents l c.put_str.new.device
    c.put_str-in-Some.new.device c.put_str.new.self c.put_str-in-Some.new.self) c.as_str.ensures.value c.put_str-in-Some.ensures in
    let told : current_text (Some shown) ≡ current_text c.args.current.now = search rules in
    subst (λ (l : List ℕ). Puts contents l c.args.device.now c.put_str-in-Some.new.device c.args.pieces.now
    c.put_str-in-Some.new.self) told (puts_then contents _ _ _ _ _ _ _ _ sign text)
