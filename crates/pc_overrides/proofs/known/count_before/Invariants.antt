use Rattle.std.proofs.Common.{◌≤◌, ◌-◌, length}
use Rattle.pc_overrides.proofs.known.count_before.Given as goal

abbrev pub invariant-loop-start : goal.invariant-loop-start
invariant-loop-start g l = record {
  order : l.start ≤ l.end;
  within : l.end ≤ length l.own;
}

abbrev pub decreases-loop-start : goal.decreases-loop-start
decreases-loop-start g l = l.end - l.start
