use Rattle.std.proofs.Common.{◌≡◌, drop}
use Rattle.pc_value.specs.Texts.{occurs_in}
use Rattle.pc_value.proofs.text.occurs_in.Given as goal

abbrev pub invariant-loop-start : goal.invariant-loop-start
invariant-loop-start l = occurs_in l.part l.whole ≡ occurs_in l.part (drop l.start l.whole)
