use Rattle.std.proofs.Common.{◌≡◌, drop, Some}
use Rattle.pc_wire.specs.Fields.{with_digits}
use Rattle.pc_wire.proofs.fields.number_in.Given as goal

abbrev pub invariant-loop-byte : goal.invariant-loop-byte
invariant-loop-byte l = with_digits l.number (drop l.byte-index l.text) ≡ with_digits (Some 0) l.text
