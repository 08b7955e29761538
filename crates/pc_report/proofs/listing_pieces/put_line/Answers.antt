use Rattle.std.proofs.Common.{◌≡◌, ◌∷◌, [], ◌++◌, List, ℕ, decimal, subst, append_assoc}
use Rattle.std.specs.Rc.{rc_str_bytes}
use Rattle.pc_report.specs.Pieces.{Puts}
use Rattle.pc_report.specs.TypeTexts.{current_text}
use Rattle.pc_report.proofs.Underway.{puts_then}
use Rattle.pc_report.proofs.listing_pieces.put_line.Goals as goal

joined : (a b c d e f g : List ℕ)
    → a ++ (58 ∷ (b ++ (45 ∷ (c ++ (58 ∷ (d ++ (32 ∷ (e ++ (f ++ g)))))))))
    ≡ (a ++ (58 ∷ (b ++ (45 ∷ (c ++ (58 ∷ (d ++ (32 ∷ (e ++ f))))))))) ++ g
joined a b c d e f g = simp append_assoc

pub returns : goal.returns
returns g c =
    let contents = g.W.Write.contents in
    let row = c.args.row.now in
    let text : Puts contents (rc_str_bytes row.entry.text) c.put_str-4.new.device c.put_str-5.new.device
    c.put_str-4.new.self c.put_str-5.new.self = subst (λ (l : List ℕ). Puts contents l c.put_str-4.new.device
    c.put_str-5.new.device c.put_str-4.new.self c.put_str-5.new.self) c.as_str.ensures.value c.put_str-5.ensures in
    subst (λ (l : List ℕ). Puts contents l c.args.device.now c.put_str-6.new.device c.args.pieces.now
    c.put_str-6.new.self)
    (joined (decimal row.line) (decimal row.column) (decimal row.end_line) (decimal row.end_column)
    (rc_str_bytes row.entry.text) (current_text row.entry.current) (10 ∷ []))
    (puts_then contents _ _ _ _ _ _ _ _ c.put_number.ensures
    (puts_then contents _ _ _ _ _ _ _ _ c.put_str.ensures
    (puts_then contents _ _ _ _ _ _ _ _ c.put_number-2.ensures
    (puts_then contents _ _ _ _ _ _ _ _ c.put_str-2.ensures
    (puts_then contents _ _ _ _ _ _ _ _ c.put_number-3.ensures
    (puts_then contents _ _ _ _ _ _ _ _ c.put_str-3.ensures
    (puts_then contents _ _ _ _ _ _ _ _ c.put_number-4.ensures
    (puts_then contents _ _ _ _ _ _ _ _ c.put_str-4.ensures
    (puts_then contents _ _ _ _ _ _ _ _ text
    (puts_then contents _ _ _ _ _ _ _ _ c.put_current.ensures
    c.put_str-6.ensures))))))))))
