use Rattle.std.proofs.Common.{◌≡◌, ◌+◌, min, take, length, ◌∙◌}
use Rattle.std.specs.Prelude.{nat_lt}
use Rattle.pc_flow.proofs.Given.{each_kept, keeps_both}
use Rattle.pc_flow.proofs.Loops.{one_more_below, none_below, join_begins, join_goes_on, join_ends}
use Rattle.pc_flow.proofs.joining.join_env.Goals as goal

pub loop-local-init : goal.loop-local-init
loop-local-init g c =
    let copy : c.in_ok-copied.field-0 ≡ c.args.a.now = c.in_ok-copied.ensures in
    let few : c.min-locals.result ≡ min (length c.args.declarations.now.declared.now) (length c.args.b.now) =
    c.min-locals.ensures ∙ (λ i. min (length (c.types.ensures i)) (c.len.ensures i)) in (
      (λ ty h. h),
      join_begins g.S.TypeStore.has g.S.TypeStore.tree c.args.declarations.now.parents.now
          c.args.declarations.now.declared.now c.args.a.now c.args.b.now c.args.store.now (λ x. nat_lt x 0)
          c.min-locals.result c.first-met.result none_below few (c.first-met.ensures
          ∙ (λ i. take c.min-locals.result (copy i))) c.requires.left,
    )

pub set_joined-requires-clause-declared : goal.set_joined-requires-clause-declared
set_joined-requires-clause-declared g c = each_kept g.S.TypeStore.has _ _ c.loop-local.invariant.0
    c.args.declarations.now.declared.now c.requires.declared

pub set_joined-requires-clause-left : goal.set_joined-requires-clause-left
set_joined-requires-clause-left g c = each_kept g.S.TypeStore.has _ _ c.loop-local.invariant.0 c.args.a.now
    c.requires.left

pub set_joined-requires-clause-right : goal.set_joined-requires-clause-right
set_joined-requires-clause-right g c = each_kept g.S.TypeStore.has _ _ c.loop-local.invariant.0 c.args.b.now
    c.requires.right

pub set_joined-requires-clause-met : goal.set_joined-requires-clause-met
set_joined-requires-clause-met g c = c.loop-local.invariant.1.given

pub loop-local-preserved : goal.loop-local-preserved
loop-local-preserved g c =
    let i = c.loop-local.local in (
      keeps_both g.S.TypeStore.has _ _ _ c.loop-local.invariant.0 c.set_joined.ensures.kept,
      join_goes_on g.S.TypeStore.has g.S.TypeStore.tree c.args.declarations.now.parents.now
          c.args.declarations.now.declared.now c.args.a.now c.args.b.now c.loop-local.store c.set_joined.new.store
          (λ x. nat_lt x i) (λ x. nat_lt x (i + 1)) i c.loop-local.met c.set_joined.new.met (one_more_below i)
          c.loop-local.invariant.1 c.in_ok-set_joined.ensures.value,
    )

pub returns-clause-value : goal.returns-clause-value
returns-clause-value g c =
    let few : c.min-locals.result ≡ min (length c.args.declarations.now.declared.now) (length c.args.b.now) =
    c.min-locals.ensures ∙ (λ i. min (length (c.types.ensures i)) (c.len.ensures i)) in
    join_ends g.S.TypeStore.has g.S.TypeStore.tree c.args.declarations.now.parents.now
    c.args.declarations.now.declared.now c.args.a.now c.args.b.now c.loop-local.store c.loop-local.met
    c.min-locals.result c.loop-local.local few c.loop-local-test.false c.loop-local.invariant.1
