use Rattle.pc_shared_maps.proofs.shared.SharedMaps.+put.Given as goal

abbrev pub decreases-put : goal.decreases-put
decreases-put l = l.key
