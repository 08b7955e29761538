use Rattle.std.proofs.Common.{◌≡◌}
use Rattle.pc_types.specs.Join.{reaches}
use Rattle.pc_types.proofs.parents.Parents.is_within.Given as goal

abbrev pub invariant-loop-at : goal.invariant-loop-at
invariant-loop-at l = reaches l.self l.class l.class l.ancestor ≡ reaches l.self l.at l.at l.ancestor

abbrev pub decreases-loop-at : goal.decreases-loop-at
decreases-loop-at l = l.at
