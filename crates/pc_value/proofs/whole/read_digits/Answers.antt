use Rattle.std.proofs.Common.{arith}
use Rattle.pc_value.proofs.Walks.{too_wide}
use Rattle.pc_value.proofs.whole.read_digits.Goals as goal

pub returns-in_default : goal.returns-in_default
returns-in_default c =
    too_wide c.args.digits.now c.loop-digit.digit-index c.loop-digit.number c.loop-digit-test.true
    (omega (arith, c.in_default.ensures)) c.loop-digit.invariant

pub returns-in_default-checked_add : goal.returns-in_default-checked_add
returns-in_default-checked_add c =
    too_wide c.args.digits.now c.loop-digit.digit-index c.loop-digit.number c.loop-digit-test.true
    (omega (arith, c.in_default-checked_add.ensures, c.in-Some.ensures)) c.loop-digit.invariant
