use Rattle.pc_intern.proofs.table.Table.ty.Goals as goal

pub returns-clause-given : goal.returns-clause-given
returns-clause-given c = c.self.invariant.0.given c.args.number c.index.result.now c.index.ensures
