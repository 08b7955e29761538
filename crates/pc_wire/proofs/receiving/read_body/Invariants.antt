use Rattle.std.proofs.Common.{◌≡◌, ◌-◌, ◌≤◌, length}
use Rattle.std.specs.Prelude.{vec_capacity}
use Rattle.std.specs.Io.KnownBytes.{Consumes}
use Rattle.pc_wire.proofs.receiving.read_body.Given as goal

abbrev pub invariant-pieces : goal.invariant-pieces
invariant-pieces g l = record {
  given : Consumes (g.R.Read.remaining l.fn.device.device) (g.R.Read.remaining l.device.device) l.message.items;
  short : length l.message.items ≤ l.len;
  room : l.len ≤ vec_capacity l.message;
  failures : l.device.failures ≡ l.fn.device.failures;
}

abbrev pub decreases-pieces : goal.decreases-pieces
decreases-pieces g l = l.len - length l.message.items
