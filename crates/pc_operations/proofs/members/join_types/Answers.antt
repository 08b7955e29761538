use Rattle.std.proofs.Common.{map, subst, IfOk}
use Rattle.pc_types.specs.Store.{Means}
use Rattle.pc_operations.proofs.SeveralJoined.{joined_is}
use Rattle.pc_operations.proofs.members.join_types.Goals as goal

pub returns-clause-value : goal.returns-clause-value
returns-clause-value g c =
    subst (λ u. IfOk c.join_all.result (λ t. Means g.S.TypeStore.has g.S.TypeStore.tree c.join_all.new.self t u))
    (joined_is c.args.parents.now (map g.S.TypeStore.tree c.args.types.now)) c.join_all.ensures.value
