use Rattle.std.proofs.Common.{◌+◌, ◌-◌, length}
use Rattle.pc_wire.specs.Fields.{length_in}
use Rattle.pc_wire.proofs.Lines.{GivesFrom}
use Rattle.pc_wire.proofs.fields.length_in.Given as goal

abbrev pub invariant-lines : goal.invariant-lines
invariant-lines l = GivesFrom l.named l.header l.start (length_in l.header)

abbrev pub decreases-lines : goal.decreases-lines
decreases-lines l = length l.header + 1 - l.start
