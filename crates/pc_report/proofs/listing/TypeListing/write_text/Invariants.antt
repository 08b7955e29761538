use Rattle.std.proofs.Common.{◌++◌, ◌∷◌, [], take}
use Rattle.std.specs.List.{flat_map}
use Rattle.pc_report.specs.Pieces.{IsOnItsWay}
use Rattle.pc_report.specs.TypeTexts.{type_row_text}
use Rattle.pc_report.proofs.listing.TypeListing.write_text.Given as goal

abbrev pub invariant-loop-row : goal.invariant-loop-row
invariant-loop-row g l = IsOnItsWay g.W.Write.contents (flat_map (λ row. type_row_text row ++ 10 ∷ [])
    (take l.row-index l.row-items)) l.fn.device l.device l.pieces
