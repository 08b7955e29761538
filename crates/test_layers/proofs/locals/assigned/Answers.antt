use Rattle.std.proofs.Common.{◌≡◌, List, Option, length, ap, sym, subst, ◌∙◌}
use Rattle.pc_types.specs.declared.boxed.BoxType.{BoxType}
use Rattle.test_layers.proofs.HeldLocals.{AreHeld, set_held, set_length}
use Rattle.test_layers.proofs.locals.assigned.Goals as goal
use Rattle.test_layers.proofs.locals.assigned.Goals.{in-Some+in_ok-ty+in_ok-assign, in_default}

pub loop-param-preserved : goal.loop-param-preserved
loop-param-preserved c =
    let bases = c.args.row.now.outline.now.parents.now in
    elim c.match-local_of.branch [
      | in-Some+in_ok-ty+in_ok-assign w ↦ (
        set_held bases _ _ _ _ w.in_ok-ty.ensures.given
            w.in_ok-ty.ensures.well_formed c.loop-param.invariant.0 (w.env-is ∙ w.in_ok-assign.ensures.assigned),
        ap length (w.env-is ∙ w.in_ok-assign.ensures.assigned) ∙ set_length _ _ _ ∙ c.loop-param.invariant.1,
      )
      | in_default w ↦ subst (λ (e : List (Option BoxType)). AreHeld bases e × (length e ≡ 3)) (sym w.env-is)
          c.loop-param.invariant
    ]
