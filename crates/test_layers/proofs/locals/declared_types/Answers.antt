use Rattle.std.proofs.Common.{sym, subst, ◌∙◌}
use Rattle.test_layers.proofs.HeldLocals.{AreHeld, set_held}
use Rattle.test_layers.proofs.locals.declared_types.Goals as goal
use Rattle.test_layers.proofs.locals.declared_types.Goals.{then-is_some+in-Some+in_ok-ty, else-is_some}

pub loop-param-preserved : goal.loop-param-preserved
loop-param-preserved c =
    let bases = c.args.row.now.outline.now.parents.now in
    elim c.if-is_some.branch [
      | then-is_some+in-Some+in_ok-ty w ↦ set_held bases _ _ _ _ w.in_ok-ty.ensures.given
          w.in_ok-ty.ensures.well_formed c.loop-param.invariant (w.declared-is ∙ w.declare.ensures)
      | else-is_some w ↦ subst (AreHeld bases) (sym w.declared-is) c.loop-param.invariant
    ]
