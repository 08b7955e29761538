use Rattle.std.proofs.Common.{◌≡◌, ◌≤◌}
use Rattle.pc_class.specs.Listed.{needed_in}
use Rattle.pc_class.proofs.listed.needed_among.Given as goal

abbrev pub invariant-loop-end : goal.invariant-loop-end
invariant-loop-end g l = record {
  within : l.end ≤ l.count;
  same : needed_in l.params l.end ≡ needed_in l.params l.count;
}

abbrev pub decreases-loop-end : goal.decreases-loop-end
decreases-loop-end g l = l.end
