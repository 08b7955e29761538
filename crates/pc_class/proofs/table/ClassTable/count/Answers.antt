use Rattle.std.proofs.Common.{length, ap, arith}
use Rattle.pc_class.proofs.table.ClassTable.count.Goals as goal

pub returns : goal.returns
returns g c =
    let long = c.len.ensures in
    let many = c.self.invariant.0.many in
    let seen = ap length c.self.view_is in
    omega arith
