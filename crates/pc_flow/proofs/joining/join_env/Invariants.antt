use Rattle.std.specs.Prelude.{nat_lt}
use Rattle.pc_types.specs.Store.{KeepsTypes}
use Rattle.pc_flow.specs.Stored.{env_of, declared_of, GivesEnv}
use Rattle.pc_flow.proofs.Meeting.{join_where}
use Rattle.pc_flow.proofs.joining.join_env.Given as goal

abbrev pub invariant-loop-local : goal.invariant-loop-local
invariant-loop-local g l =
    KeepsTypes g.S.TypeStore.has l.fn.store l.store
    × GivesEnv g.S.TypeStore.has g.S.TypeStore.tree l.store l.met
    (join_where l.declarations.parents.now (λ x. nat_lt x l.local)
    (declared_of g.S.TypeStore.tree l.declarations.declared.now) (env_of g.S.TypeStore.tree l.a)
    (env_of g.S.TypeStore.tree l.b))
