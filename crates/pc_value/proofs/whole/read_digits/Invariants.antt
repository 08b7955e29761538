use Rattle.std.proofs.Common.{◌≡◌, drop}
use Rattle.pc_tree.specs.Digits.{number_behind}
use Rattle.pc_value.proofs.whole.read_digits.Given as goal

abbrev pub invariant-loop-digit : goal.invariant-loop-digit
invariant-loop-digit l = number_behind 0 l.digits ≡ number_behind l.number (drop l.digit-index l.digits)
