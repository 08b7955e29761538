use Rattle.std.proofs.Common.{◌∙◌, ◌<◌, length, sym, arith}
use Rattle.pc_flow.proofs.SameTypes.{same_heads, given_at, fewer_at, as_many, all_same, one_more_same}
use Rattle.pc_flow.proofs.alike.+is_same_type.Goals as goal

pub index-requires-in-loop-part : goal.index-requires-in-loop-part
index-requires-in-loop-part g t c =
    let tree = g.S.TypeStore.tree in
    let heads = same_heads c.head-head.result c.head.result (sym c.ne.ensures ∙ c.if-ne.false) in
    let many = as_many tree c.in_ok-left.left.items c.in_ok-right.right.items (tree c.args.s.now) (tree c.args.t.now)
    c.in_ok-left.ensures.value c.in_ok-right.ensures.value c.head-head.result c.head.result c.head-head.ensures.parts
    c.head.ensures.parts heads in
    omega (arith, many, c.loop-part-test.true)

pub is_same_type-requires : goal.is_same_type-requires
is_same_type-requires g t c κs within =
    let tree = g.S.TypeStore.tree in
    let has = g.S.TypeStore.has c.args.store.now in
    let left = c.in_ok-left.left.items in
    let right = c.in_ok-right.right.items in
    let heads = same_heads c.head-head.result c.head.result (sym c.ne.ensures ∙ c.if-ne.false) in
    let many = as_many tree left right (tree c.args.s.now) (tree c.args.t.now)
    c.in_ok-left.ensures.value c.in_ok-right.ensures.value c.head-head.result c.head.result c.head-head.ensures.parts
    c.head.ensures.parts heads in
    let i = c.loop-part.part in
    let less : i < length left = omega (arith, c.loop-part-test.true) in
    let less_right : i < length right = omega (arith, many, less) in
    let fewer = fewer_at tree left (tree c.args.s.now) i c.index.result.now c.in_ok-left.ensures.value less
    c.index.ensures in (
      omega (arith, fewer),
      (
        within.0,
        (
          within.1,
          (
            given_at has left i c.index.result.now c.in_ok-left.ensures.held less c.index.ensures,
            given_at has right i c.index-in-loop-part.result.now c.in_ok-right.ensures.held less_right
                c.index-in-loop-part.ensures,
          ),
        ),
      ),
    )

pub loop-part-preserved : goal.loop-part-preserved
loop-part-preserved g t c =
    let tree = g.S.TypeStore.tree in
    let left = c.in_ok-left.left.items in
    let right = c.in_ok-right.right.items in
    let heads = same_heads c.head-head.result c.head.result (sym c.ne.ensures ∙ c.if-ne.false) in
    let many = as_many tree left right (tree c.args.s.now) (tree c.args.t.now)
    c.in_ok-left.ensures.value c.in_ok-right.ensures.value c.head-head.result c.head.result c.head-head.ensures.parts
    c.head.ensures.parts heads in
    let i = c.loop-part.part in
    let less : i < length left = omega (arith, c.loop-part-test.true) in
    let less_right : i < length right = omega (arith, many, less) in
    one_more_same tree left right i c.index.result.now c.index-in-loop-part.result.now less less_right
    c.index.ensures c.index-in-loop-part.ensures (c.in_ok-is_same_type.ensures c.if-not-branch.false)
    c.loop-part.invariant

pub returns : goal.returns
returns g t c =
    let tree = g.S.TypeStore.tree in
    let normal = g.met.S.TypeStore.normal c.args.store.now in
    let left = c.in_ok-left.left.items in
    let heads = same_heads c.head-head.result c.head.result (sym c.ne.ensures ∙ c.if-ne.false) in
    let many = as_many tree left c.in_ok-right.right.items (tree c.args.s.now) (tree c.args.t.now)
    c.in_ok-left.ensures.value c.in_ok-right.ensures.value c.head-head.result c.head.result c.head-head.ensures.parts
    c.head.ensures.parts heads in
    λ same. all_same tree left c.in_ok-right.right.items (tree c.args.s.now) (tree c.args.t.now)
    c.in_ok-left.ensures.value c.in_ok-right.ensures.value c.loop-part.part (normal c.args.s.now c.requires.left)
    (normal c.args.t.now c.requires.right) (sym c.head-head.ensures.head ∙ heads ∙ c.head.ensures.head) many
    (omega (arith, c.loop-part-test.false)) c.loop-part.invariant
