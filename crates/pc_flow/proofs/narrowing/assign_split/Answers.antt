use Rattle.std.proofs.Common.{refl}
use Rattle.pc_flow.proofs.Assigned.{assigned_gives}
use Rattle.pc_flow.proofs.narrowing.assign_split.Goals as goal

pub returns : goal.returns
returns g c = rw (c.in_ok-assign.ensures.assigned, c.in_ok-assign-2.ensures.assigned) (record {
  where_true = assigned_gives g.S.TypeStore.has g.S.TypeStore.tree c.args.store.now _ c.args.local c.args.split.passing
      _ c.requires.passing c.in_ok-where_true.ensures;
  where_false = assigned_gives g.S.TypeStore.has g.S.TypeStore.tree c.args.store.now c.args.env c.args.local
      c.args.split.failing _ c.requires.failing (record { given = c.requires.env; is = refl });
})
