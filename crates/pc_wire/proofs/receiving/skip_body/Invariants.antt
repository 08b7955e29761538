use Rattle.std.proofs.Common.{◌≡◌, ◌+◌, ℕ, List, length}
use Rattle.std.specs.Io.KnownBytes.{Consumes}
use Rattle.pc_wire.proofs.receiving.skip_body.Given as goal

abbrev pub invariant-pieces : goal.invariant-pieces
invariant-pieces g l = record {
  bytes : List ℕ;
  given : Consumes (g.R.Read.remaining l.fn.device.device) (g.R.Read.remaining l.device.device) bytes;
  all : length bytes + l.left ≡ l.len;
  failures : l.device.failures ≡ l.fn.device.failures;
}

abbrev pub decreases-pieces : goal.decreases-pieces
decreases-pieces g l = l.left
