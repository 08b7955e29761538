use Rattle.std.proofs.Common.{◌≡◌, List, ℕ, Some, rules, sym, ap, ◌∙◌, subst}
use Rattle.std.specs.Prelude.{option_map}
use Rattle.std.specs.Rc.{rc_str_bytes}
use Rattle.std.specs.Borrow.{Bor}
use Rattle.json.specs.Print.{quoted}
use Rattle.pc_report.specs.declared.flow.FlowTexts.{FlowTexts}
use Rattle.pc_report.specs.Json.{to_json}
use Rattle.pc_report.specs.Pieces.{Puts}
use Rattle.pc_report.proofs.Underway.{puts_then}
use Rattle.pc_report.proofs.json_pieces.put_to.Goals as goal

pub returns-in-Some : goal.returns-in-Some
returns-in-Some g c =
    let contents = g.W.Write.contents in
    let flow : FlowTexts = c.in-Some.flow.now in
    let text : Puts contents (quoted (rc_str_bytes flow.to)) c.put_str.new.device c.put_quoted.new.device
    c.put_str.new.self c.put_quoted.new.self = subst (λ (l : List ℕ). Puts contents (quoted l) c.put_str.new.device
    c.put_quoted.new.device c.put_str.new.self c.put_quoted.new.self) c.as_str.ensures.value c.put_quoted.ensures in
    let told : to_json (Some flow) ≡ to_json (option_map (λ (f : Bor FlowTexts). f.now) c.args.flow) =
    search rules in
    subst (λ (l : List ℕ). Puts contents l c.args.device.now c.put_quoted.new.device c.args.pieces.now
    c.put_quoted.new.self) told (puts_then contents _ _ _ _ _ _ _ _ c.put_str.ensures text)
