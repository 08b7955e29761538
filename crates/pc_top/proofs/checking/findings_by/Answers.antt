use Rattle.pc_top.proofs.checking.findings_by.Goals as goal

pub returns-clause-kept : goal.returns-clause-kept
returns-clause-kept g c = λ ty h. c.findings_with-found.ensures.kept ty (c.class_table.ensures.kept ty h)
