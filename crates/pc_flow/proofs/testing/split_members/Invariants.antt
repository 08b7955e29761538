use Rattle.pc_flow.proofs.Parted.{IsParted}
use Rattle.pc_flow.proofs.testing.split_members.Given as goal

abbrev pub invariant-loop-i : goal.invariant-loop-i
invariant-loop-i g l = IsParted g.S.TypeStore.has g.S.TypeStore.tree l.parents l.test l.members.items l.fn.store l.store
    l.i l.passing.items l.failing.items
