use Rattle.std.proofs.Common.{arith, ◌*◌, ◌+◌, ◌-◌, get_or, drop}
use Rattle.pc_operations.proofs.Literals.{at_least, read_more}
use Rattle.pc_operations.proofs.offers.small_number.Goals as goal

pub returns-then-number-ge256 : goal.returns-then-number-ge256
returns-then-number-ge256 c =
    let ds = c.as_bytes-bytes.result.now in
    let i = c.loop-digit.digit-index in
    let e = read_more ds i c.loop-digit.number _ c.loop-digit-test.true c.loop-digit.invariant.value in
    let h = rw e at (at_least (10 * c.loop-digit.number + (get_or ds i 0 - 48)) (drop (i + 1) ds)) in
    grind (arith, h)
