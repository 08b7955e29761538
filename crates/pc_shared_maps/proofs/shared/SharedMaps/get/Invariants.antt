use Rattle.std.proofs.Common.{◌≡◌, ◌<◌, length}
use Rattle.pc_shared_maps.specs.SharedMaps.{held_at}
use Rattle.pc_shared_maps.proofs.shared.SharedMaps.get.Given as goal

abbrev pub invariant-loop-rest : goal.invariant-loop-rest
invariant-loop-rest l = (l.at < length l.self) × (held_at l.self l.at l.rest ≡ held_at l.self l.map l.key)

abbrev pub decreases-loop-rest : goal.decreases-loop-rest
decreases-loop-rest l = l.rest
