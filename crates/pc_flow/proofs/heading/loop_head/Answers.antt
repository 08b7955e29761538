use Rattle.std.proofs.Common.{◌≡◌, refl, get_or, take, length, ◌∙◌}
use Rattle.pc_flow.proofs.Given.{each_kept, keeps_both}
use Rattle.pc_flow.proofs.Loops.{head_begins, head_goes_on}
use Rattle.pc_flow.proofs.heading.loop_head.Goals as goal

pub loop-local-init : goal.loop-local-init
loop-local-init g c =
    let copy : c.in_ok-copied.field-0 ≡ c.args.env.now = c.in_ok-copied.ensures in (
      (λ ty h. h),
      head_begins g.S.TypeStore.has g.S.TypeStore.tree c.args.bound.now c.args.declared.now c.args.env.now
          c.args.store.now c.first-head.result (c.first-head.ensures
          ∙ (λ i. take (length (c.types.ensures i)) (copy i)))
          c.requires.env,
    )

pub set_declared-requires-clause-declared : goal.set_declared-requires-clause-declared
set_declared-requires-clause-declared g c = each_kept g.S.TypeStore.has _ _ c.loop-local.invariant.0 c.args.declared.now
    c.requires.declared

pub loop-local-preserved : goal.loop-local-preserved
loop-local-preserved g c =
    let i = c.loop-local.local-index in (
      keeps_both g.S.TypeStore.has _ _ _ c.loop-local.invariant.0 c.set_declared.ensures.kept,
      head_goes_on g.S.TypeStore.has g.S.TypeStore.tree c.args.bound.now c.args.declared.now c.args.env.now
          c.loop-local.store c.set_declared.new.store i 0 (get_or c.args.bound.now i 0) c.loop-local.head
          c.set_declared.new.env c.loop-local-test.true refl c.loop-local.invariant.1
          c.in_ok-set_declared.ensures.value,
    )
