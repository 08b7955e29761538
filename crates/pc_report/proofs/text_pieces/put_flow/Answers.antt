use Rattle.std.proofs.Common.{◌≡◌, ◌∷◌, [], ◌++◌, List, ℕ, Some, codes, rules, sym, ap, ◌∙◌, subst}
use Rattle.std.specs.Prelude.{option_map}
use Rattle.std.specs.Rc.{rc_str_bytes}
use Rattle.std.specs.Borrow.{Bor}
use Rattle.pc_report.specs.declared.flow.FlowTexts.{FlowTexts}
use Rattle.pc_report.specs.Pieces.{Puts}
use Rattle.pc_report.specs.Report.{flow_text}
use Rattle.pc_report.proofs.Underway.{puts_then}
use Rattle.pc_report.proofs.text_pieces.put_flow.Goals as goal

pub returns : goal.returns
returns g c =
    let contents = g.W.Write.contents in
    let flow : FlowTexts = c.in-Some.flow.now in
    let from : Puts contents (rc_str_bytes flow.from) c.put_str.new.device c.put_str-2.new.device c.put_str.new.self
    c.put_str-2.new.self = subst (λ (l : List ℕ). Puts contents l c.put_str.new.device c.put_str-2.new.device
    c.put_str.new.self c.put_str-2.new.self) c.as_str.ensures.value c.put_str-2.ensures in
    let to : Puts contents (rc_str_bytes flow.to) c.put_str-3.new.device c.put_str-4.new.device c.put_str-3.new.self
    c.put_str-4.new.self = subst (λ (l : List ℕ). Puts contents l c.put_str-3.new.device c.put_str-4.new.device
    c.put_str-3.new.self c.put_str-4.new.self) c.as_str-2.ensures.value c.put_str-4.ensures in
    let told : flow_text (Some flow) ≡ flow_text (option_map (λ (f : Bor FlowTexts). f.now) c.args.flow) =
    search rules in
    subst (λ (l : List ℕ). Puts contents l c.args.device.now c.put_str-4.new.device c.args.pieces.now
    c.put_str-4.new.self) told
    (puts_then contents _ _ _ _ _ _ _ _ c.put_str.ensures (puts_then contents _ _ _ _ _ _ _ _ from
    (puts_then contents _ _ _ _ _ _ _ _ c.put_str-3.ensures to)))
