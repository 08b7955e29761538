use Rattle.std.proofs.Common.{◌≡◌, drop}
use Rattle.pc_token.specs.Numbers.{underscores_fit}
use Rattle.pc_token.proofs.number.underscores_fit.Given as goal

abbrev pub invariant-bytes : goal.invariant-bytes
invariant-bytes l = underscores_fit (drop l.at l.bytes) ≡ underscores_fit l.bytes
