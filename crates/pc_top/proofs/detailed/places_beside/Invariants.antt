use Rattle.std.proofs.Common.{◌≡◌, map, take}
use Rattle.pc_top.specs.DetailedBytes.{start_position}
use Rattle.pc_top.proofs.detailed.places_beside.Given as goal

abbrev pub invariant-loop-place : goal.invariant-loop-place
invariant-loop-place l = l.positions.items ≡ map (start_position l.source) (take l.place-index l.place-items)
