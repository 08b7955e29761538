use Rattle.std.proofs.Common.{◌≡◌, ◌∙◌, ◌<◌, length, arith}
use Rattle.pc_types.specs.Assignable.{IsPlain}
use Rattle.pc_types.specs.declared.head.Head.TheVariants as heads
use Rattle.pc_flow.proofs.SameTypes.{given_at, fewer_at}
use Rattle.pc_overrides.proofs.PlainTypes.{one_more_all, plain_here}
use Rattle.pc_overrides.proofs.subsuming.+is_plain.Goals as goal

pub is_plain-requires : goal.is_plain-requires
is_plain-requires g t c κs within =
    let tree = g.S.TypeStore.tree in
    let has = g.S.TypeStore.has c.args.store.now in
    let items = c.in_ok-parts.parts.items in
    let i = c.loop-part.part in
    let less : i < length items = omega (arith, c.loop-part-test.true) in
    let fewer = fewer_at tree items (tree c.args.ty.now) i c.index.result.now c.in_ok-parts.ensures.value less
    c.index.ensures in (
      omega (arith, fewer),
      (within.0, (within.1, given_at has items i c.index.result.now c.in_ok-parts.ensures.held less c.index.ensures)),
    )

pub loop-part-preserved : goal.loop-part-preserved
loop-part-preserved g t c =
    let tree = g.S.TypeStore.tree in
    let items = c.in_ok-parts.parts.items in
    let i = c.loop-part.part in
    let less : i < length items = omega (arith, c.loop-part-test.true) in
    one_more_all (λ ty. IsPlain (tree ty)) items i c.index.result.now less c.index.ensures c.loop-part.invariant
    (c.in_ok-is_plain.ensures c.if-not-branch.false)

pub returns : goal.returns
returns g t c =
    let tree = g.S.TypeStore.tree in
    let items = c.in_ok-parts.parts.items in
    λ same. plain_here tree (tree c.args.ty.now) items c.loop-part.part
    (λ e. let any : c.head-head.result ≡ heads.Any = c.head-head.ensures.head ∙ e in grind (
      arith,
      any,
      c.eq.ensures,
      c.if-eq.false,
    )) c.in_ok-parts.ensures.value (omega (arith, c.loop-part-test.false)) c.loop-part.invariant
