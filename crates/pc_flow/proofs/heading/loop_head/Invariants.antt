use Rattle.std.proofs.Common.{take}
use Rattle.pc_types.specs.Store.{KeepsTypes}
use Rattle.pc_flow.specs.Agreement.{is_among}
use Rattle.pc_flow.specs.Environment.{loop_head}
use Rattle.pc_flow.specs.Stored.{env_of, declared_of, GivesEnv}
use Rattle.pc_flow.proofs.heading.loop_head.Given as goal

abbrev pub invariant-loop-local : goal.invariant-loop-local
invariant-loop-local g l =
    KeepsTypes g.S.TypeStore.has l.fn.store l.store
    × GivesEnv g.S.TypeStore.has g.S.TypeStore.tree l.store l.head
    (loop_head (is_among (take l.local-index l.bound)) (declared_of g.S.TypeStore.tree l.declared)
    (env_of g.S.TypeStore.tree l.env))
