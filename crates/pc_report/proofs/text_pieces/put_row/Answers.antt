use Rattle.std.proofs.Common.{◌≡◌, ◌∷◌, [], ◌++◌, List, ℕ, codes, decimal, rules, sym, ap, ◌∙◌, subst, append_assoc}
use Rattle.pc_tree.specs.Code.{text_of, label_of}
use Rattle.pc_report.specs.Pieces.{Puts}
use Rattle.pc_report.specs.Report.{flow_text, row_text, shown_flow}
use Rattle.pc_report.proofs.Underway.{puts_then}
use Rattle.pc_report.proofs.text_pieces.put_row.Goals as goal

joined : (a b c d e f : List ℕ) → a ++ (58 ∷ (b ++ (32 ∷ (c ++ (32 ∷ (d ++ (e ++ f)))))))
    ≡ (a ++ (58 ∷ (b ++ (32 ∷ (c ++ (32 ∷ (d ++ e))))))) ++ f
joined a b c d e f = simp append_assoc

pub returns : goal.returns
returns g c =
    let contents = g.W.Write.contents in
    let row = c.args.row.now in
    let code : Puts contents (text_of row.finding.code) c.put_str-2.new.device c.put_str-3.new.device
    c.put_str-2.new.self c.put_str-3.new.self = subst (λ (l : List ℕ). Puts contents l c.put_str-2.new.device
    c.put_str-3.new.device c.put_str-2.new.self c.put_str-3.new.self) c.text.ensures c.put_str-3.ensures in
    let label : Puts contents (label_of row.finding.code) c.put_str-4.new.device c.put_str-5.new.device
    c.put_str-4.new.self c.put_str-5.new.self = subst (λ (l : List ℕ). Puts contents l c.put_str-4.new.device
    c.put_str-5.new.device c.put_str-4.new.self c.put_str-5.new.self) c.label.ensures c.put_str-5.ensures in
    let flow : Puts contents (flow_text (shown_flow c.args.format row)) c.put_str-5.new.device c.put_flow.new.device
    c.put_str-5.new.self c.put_flow.new.pieces = subst (λ o. Puts contents (flow_text o) c.put_str-5.new.device
    c.put_flow.new.device c.put_str-5.new.self c.put_flow.new.pieces) c.shown_flow.ensures c.put_flow.ensures in
    subst (λ (l : List ℕ). Puts contents l c.args.device.now c.put_str-6.new.device c.args.pieces.now
    c.put_str-6.new.self)
    (joined (decimal row.line) (decimal row.column) (text_of row.finding.code) (label_of row.finding.code)
    (flow_text (shown_flow c.args.format row)) (10 ∷ []))
    (puts_then contents _ _ _ _ _ _ _ _ c.put_number.ensures (puts_then contents _ _ _ _ _ _ _ _ c.put_str.ensures
    (puts_then contents _ _ _ _ _ _ _ _ c.put_number-2.ensures (puts_then contents _ _ _ _ _ _ _ _ c.put_str-2.ensures
    (puts_then contents _ _ _ _ _ _ _ _ code (puts_then contents _ _ _ _ _ _ _ _ c.put_str-4.ensures
    (puts_then contents _ _ _ _ _ _ _ _ label (puts_then contents _ _ _ _ _ _ _ _ flow c.put_str-6.ensures))))))))
