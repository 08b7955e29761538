use Rattle.std.proofs.Common.{◌≡◌, ◌++◌, ◌∷◌, [], take, string_bytes}
use Rattle.std.specs.List.{flat_map}
use Rattle.pc_report.specs.Report.{row_text}
use Rattle.pc_report.proofs.report.Report.to_text.Given as goal

abbrev pub invariant-loop-row : goal.invariant-loop-row
invariant-loop-row l = string_bytes l.text ≡ flat_map (λ row. row_text l.fn.format row ++ 10 ∷ [])
    (take l.row-index l.row-items)
