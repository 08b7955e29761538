use Rattle.pc_operations.proofs.pairs.binary_label.Goals as goal

pub returns-clause-value : goal.returns-clause-value
returns-clause-value g c = c.operator_label.ensures.value c.args.parents.now
