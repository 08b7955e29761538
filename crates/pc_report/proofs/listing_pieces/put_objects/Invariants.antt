use Rattle.std.proofs.Common.{◌++◌, ◌∷◌, take}
use Rattle.std.specs.List.{flat_map}
use Rattle.pc_report.specs.TypeTexts.{type_row_json}
use Rattle.pc_report.specs.Pieces.{Puts}
use Rattle.pc_report.proofs.listing_pieces.put_objects.Given as goal

abbrev pub invariant-loop-row : goal.invariant-loop-row
invariant-loop-row g l = Puts g.W.Write.contents (flat_map (λ row. 44 ∷ type_row_json row) (take l.row-index l.others))
    l.initial.device l.device l.initial.pieces l.pieces
