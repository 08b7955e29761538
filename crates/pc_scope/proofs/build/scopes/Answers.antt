use Rattle.pc_scope.proofs.build.scopes.Goals as goal

pub returns : goal.returns
returns c = record { scopes = record { tables = c.in_ok-names.ensures.tables } }
