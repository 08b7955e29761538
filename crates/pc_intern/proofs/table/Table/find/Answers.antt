use Rattle.std.proofs.Common.{sym}
use Rattle.pc_intern.proofs.Keys.{node_eq}
use Rattle.pc_intern.proofs.Places.{passes}
use Rattle.pc_intern.proofs.InTable.{found}
use Rattle.pc_intern.proofs.table.Table.find.Goals as goal

pub returns : goal.returns
returns c =
    rw (← c.self.view_is) (found c.self.inside.entries.entries c.args.node.now
    (c.in_ok-number.field-0-1.now, c.in_ok-number.field-0-2.now) c.in_ok-number.number c.self.invariant.0
    (c.in_ok-number.ensures.entry) (passes (node_eq c.args.node.now) c.self.inside.entries.entries
    c.in_ok-number.field-0-1.now (sym c.in_ok-number.ensures.key)))
