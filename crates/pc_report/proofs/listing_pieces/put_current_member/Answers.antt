use Rattle.std.proofs.Common.{◌≡◌, List, ℕ, Some, rules, sym, ap, ◌∙◌, subst}
use Rattle.std.specs.Rc.{rc_str_bytes}
use Rattle.std.specs.declared.rc.RcStr.{RcStr}
use Rattle.std.specs.declared.alloc.Global.{Global}
use Rattle.json.specs.Print.{quoted}
use Rattle.pc_report.specs.Pieces.{Puts}
use Rattle.pc_report.specs.TypeTexts.{current_json}
use Rattle.pc_report.proofs.Underway.{puts_then}
use Rattle.pc_report.proofs.listing_pieces.put_current_member.Goals as goal

pub returns-in-Some : goal.returns-in-Some
returns-in-Some g c =
    let contents = g.W.Write.contents in
    let shown : RcStr Global = c.in-Some.text in
    let text : Puts contents (quoted (rc_str_bytes shown)) c.put_str.new.device c.put_quoted.new.device
    c.put_str.new.self c.put_quoted.new.self = subst (λ (l : List ℕ). Puts contents (quoted l) c.put_str.new.device
    c.put_quoted.new.device c.put_str.new.self c.put_quoted.new.self) c.as_str.ensures.value c.put_quoted.ensures in
    let told : current_json (Some shown) ≡ current_json c.args.current.now = search rules in
    subst (λ (l : List ℕ). Puts contents l c.args.device.now c.put_quoted.new.device c.args.pieces.now
    c.put_quoted.new.self) told (puts_then contents _ _ _ _ _ _ _ _ c.put_str.ensures text)
