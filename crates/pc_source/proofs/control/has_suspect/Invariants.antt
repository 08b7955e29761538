use Rattle.std.proofs.Common.{ℕ, ◌<◌}
use Rattle.std.specs.Prelude.{IsTrue}
use Rattle.pc_source.specs.Control.{IsControl}
use Rattle.pc_source.proofs.control.has_suspect.Given as goal

abbrev pub invariant-bytes : goal.invariant-bytes
invariant-bytes l = (k : ℕ) → k < l.byte → IsControl l.bytes k → IsTrue l.found
