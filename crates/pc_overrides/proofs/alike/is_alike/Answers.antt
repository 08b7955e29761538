use Rattle.std.proofs.Common.{◌<◌, length, arith}
use Rattle.pc_overrides.proofs.AlikeMethods.{same_parameter, one_more_alike}
use Rattle.pc_overrides.proofs.alike.is_alike.Goals as goal

pub loop-number-preserved : goal.loop-number-preserved
loop-number-preserved g c =
    let tree = g.S.TypeStore.tree in
    let left = c.as_slice-left.result.now in
    let right = c.as_slice-right.result.now in
    let p = c.index-left-number.result in
    let q = c.index-right-number.result in
    let i = c.loop-number.number in
    let many = c.loop-number.invariant.many in
    let less : i < length left = omega (arith, c.loop-number-test.true) in
    let less_right : i < length right = omega (arith, less, many) in
    let same = c.agrees.ensures c.if-not-agrees.false in record {
      many = many;
      same = one_more_alike tree left right i p q less less_right c.index-left-number.is c.index-right-number.is
          (same_parameter tree p q same.0 (c.in_ok-is_same_type-2.ensures c.if-not-branch-2.false) same.1)
          c.loop-number.invariant.same;
    }
