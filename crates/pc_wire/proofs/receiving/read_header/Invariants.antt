use Rattle.std.proofs.Common.{◌≡◌, ℕ, ◌-◌, ◌<◌, ◌≤◌, length, take, false}
use Rattle.std.specs.Io.KnownBytes.{Consumes}
use Rattle.pc_wire.specs.Frames.{ends_header}
use Rattle.pc_wire.proofs.receiving.read_header.Given as goal

abbrev pub invariant-bytes : goal.invariant-bytes
invariant-bytes g l = record {
  given : Consumes (g.R.Read.remaining l.fn.device.device) (g.R.Read.remaining l.device.device) l.header.items;
  short : length l.header.items ≤ 8192;
  unended : (k : ℕ) → k < length l.header.items → ends_header (take k l.header.items) ≡ false;
  failures : l.device.failures ≡ l.fn.device.failures;
}

abbrev pub decreases-bytes : goal.decreases-bytes
decreases-bytes g l = 8192 - length l.header.items
