use Rattle.std.proofs.Common.{◌≡◌, ◌-◌, ◌≤◌, length}
use Rattle.std.specs.Io.KnownBytes.{Consumes}
use Rattle.pc_report.proofs.reading.read_at_most.Given as goal

abbrev pub invariant-loop-piece : goal.invariant-loop-piece
invariant-loop-piece g l = record {
  given : Consumes (g.R.Read.remaining l.fn.device.device) (g.R.Read.remaining l.device.device) l.bytes.items;
  short : length l.bytes.items ≤ l.most;
  failures : l.device.failures ≡ l.fn.device.failures;
}

abbrev pub decreases-loop-piece : goal.decreases-loop-piece
decreases-loop-piece g l = l.most - length l.bytes.items
