use Rattle.std.proofs.Common.{◌≡◌, ◌++◌, ◌∷◌, [], List, ℕ, codes, decimal, subst, append_assoc}
use Rattle.pc_report.specs.declared.report.Row.{Row}
use Rattle.pc_report.specs.Detailed.{detailed_findings, detailed_json}
use Rattle.pc_report.specs.Format.{format_number}
use Rattle.pc_report.specs.Pieces.{Puts, IsOnItsWay}
use Rattle.pc_report.specs.Report.{dynamic_count, errors_of}
use Rattle.pc_report.proofs.Underway.{begun, puts_then}
use Rattle.pc_report.proofs.report.Report.write_detailed_json.Goals as goal

joined : (a b c d e f g h i j : List ℕ) → a ++ (b ++ (c ++ (d ++ (e ++ (f ++ (g ++ (h ++ (i ++ j))))))))
    ≡ (a ++ (b ++ (c ++ (d ++ (e ++ (f ++ (g ++ (h ++ i)))))))) ++ j
joined a b c d e f g h i j = simp append_assoc

pub returns : goal.returns
returns g c =
    let contents = g.W.Write.contents in
    let format = c.args.format in
    let details = c.args.details.now in
    let rows = c.args.self.now in
    let start = c.args.device.now in
    let dynamic : Puts contents (decimal (dynamic_count rows)) c.put_str.new.device c.put_number.new.device
    c.put_str.new.self c.put_number.new.self = subst (λ (n : ℕ). Puts contents (decimal n) c.put_str.new.device
    c.put_number.new.device c.put_str.new.self c.put_number.new.self) c.dynamic.ensures c.put_number.ensures in
    let errors : Puts contents (decimal (errors_of rows)) c.put_str-2.new.device c.put_number-2.new.device
    c.put_str-2.new.self c.put_number-2.new.self = subst (λ (n : ℕ). Puts contents (decimal n) c.put_str-2.new.device
    c.put_number-2.new.device c.put_str-2.new.self c.put_number-2.new.self) c.errors.ensures c.put_number-2.ensures in
    let findings : Puts contents (detailed_findings format details rows) c.put_str-3.new.device
    c.put_all_detailed.new.device c.put_str-3.new.self c.put_all_detailed.new.pieces =
    subst (λ (l : List Row). Puts contents (detailed_findings format details l)
    c.put_str-3.new.device c.put_all_detailed.new.device c.put_str-3.new.self c.put_all_detailed.new.pieces)
    c.rows.ensures c.put_all_detailed.ensures in
    let number : Puts contents (decimal (format_number format)) c.put_str-4.new.device c.put_number-3.new.device
    c.put_str-4.new.self c.put_number-3.new.self = subst (λ (n : ℕ). Puts contents (decimal n) c.put_str-4.new.device
    c.put_number-3.new.device c.put_str-4.new.self c.put_number-3.new.self) c.number.ensures c.put_number-3.ensures in
    let all = puts_then contents _ _ _ _ _ _ _ _ c.put_str.ensures (puts_then contents _ _ _ _ _ _ _ _ dynamic
    (puts_then contents _ _ _ _ _ _ _ _ c.put_str-2.ensures (puts_then contents _ _ _ _ _ _ _ _ errors
    (puts_then contents _ _ _ _ _ _ _ _ c.put_str-3.ensures (puts_then contents _ _ _ _ _ _ _ _ findings
    (puts_then contents _ _ _ _ _ _ _ _ c.put_str-4.ensures (puts_then contents _ _ _ _ _ _ _ _ number
    c.put_str-5.ensures))))))) in
    c.finish.ensures (detailed_json format details rows) start
    (subst (λ (l : List ℕ). IsOnItsWay contents l start c.put_str-5.new.device c.put_str-5.new.self)
    (joined (codes "{\"dynamic\":") (decimal (dynamic_count rows)) (codes ",\"errors\":") (decimal (errors_of rows))
    (codes ",\"findings\":[") (detailed_findings format details rows) (codes "],\"format\":")
    (decimal (format_number format)) (codes "}") (10 ∷ []))
    (all [] start (begun contents c.new-pieces.result.failed c.new-pieces.result.held.items start
    c.new-pieces.ensures.failed c.new-pieces.ensures.held)))
