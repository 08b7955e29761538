use Rattle.pc_detail_facts.proofs.callees.add_named.Goals as goal

pub returns-in_ok-add_builtin-in-Builtin-clause-called : goal.returns-in_ok-add_builtin-in-Builtin-clause-called
returns-in_ok-add_builtin-in-Builtin-clause-called c =
    rw c.in-Builtin.is (c.in_ok-add_builtin-in-Builtin.ensures.called c.args.facts.now)
