use Rattle.std.proofs.Common.{◌++◌, ◌∷◌, take}
use Rattle.std.specs.List.{flat_map}
use Rattle.pc_report.specs.Detailed.{place_json}
use Rattle.pc_report.specs.Pieces.{Puts}
use Rattle.pc_report.proofs.detailed_pieces.put_places.Given as goal

abbrev pub invariant-loop-place : goal.invariant-loop-place
invariant-loop-place g l = Puts g.W.Write.contents
    (flat_map (λ place. 44 ∷ place_json place) (take l.place-index l.others))
    l.initial.device l.device l.initial.pieces l.pieces
