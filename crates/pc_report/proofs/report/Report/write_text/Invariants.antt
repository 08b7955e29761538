use Rattle.std.proofs.Common.{◌++◌, ◌∷◌, [], take}
use Rattle.std.specs.List.{flat_map}
use Rattle.pc_report.specs.Pieces.{IsOnItsWay}
use Rattle.pc_report.specs.Report.{row_text}
use Rattle.pc_report.proofs.report.Report.write_text.Given as goal

abbrev pub invariant-loop-row : goal.invariant-loop-row
invariant-loop-row g l = IsOnItsWay g.W.Write.contents (flat_map (λ row. row_text l.fn.format row ++ 10 ∷ [])
    (take l.row-index l.row-items)) l.fn.device l.device l.pieces
