use Rattle.std.proofs.Common.{◌++◌, ◌∷◌, take}
use Rattle.std.specs.List.{flat_map}
use Rattle.pc_report.specs.Json.{finding_json}
use Rattle.pc_report.specs.Pieces.{Puts}
use Rattle.pc_report.specs.Report.{shown_flow}
use Rattle.pc_report.proofs.json_pieces.put_findings.Given as goal

abbrev pub invariant-loop-row : goal.invariant-loop-row
invariant-loop-row g l = Puts g.W.Write.contents (flat_map
    (λ row. 44 ∷ finding_json (shown_flow l.fn.format row) row) (take l.row-index l.others)) l.initial.device l.device
    l.initial.pieces l.pieces
