use Rattle.std.proofs.Common.{◌≡◌, ◌<◌, drop}
use Rattle.pc_tree.specs.Digits.{number_behind}
use Rattle.pc_operations.proofs.offers.small_number.Given as goal

abbrev pub invariant-loop-digit : goal.invariant-loop-digit
invariant-loop-digit l = record {
  small : l.number < 256;
  value : number_behind l.number (drop l.digit-index l.bytes) ≡ number_behind 0 l.digits;
}
