use Rattle.std.proofs.Common.{rules, ◌≡◌, ◌<◌, map, ap, sym, ◌∙◌, subst, arith}
use Rattle.pc_types.specs.Shape.{parts, nodes, node_limit}
use Rattle.pc_types.specs.Normal.{IsNormal}
use Rattle.pc_types.specs.Internal.Rebuilding.{rebuilt}
use Rattle.pc_notes.proofs.Taken.{part_at, held_at, one_more, next_taken, same_again}
use Rattle.pc_notes.proofs.rebuilding.+transfer.Goals as goal

pub transfer-requires : goal.transfer-requires
transfer-requires g t c κs within =
    let tree = g.S.TypeStore.tree in
    let items = c.deref-part-items.result.now in
    let e : map tree items ≡ parts (tree c.args.ty.now) = ap (map tree) c.deref-part-items.ensures.value
    ∙ c.in_ok-parts.ensures.value in
    let l = part_at tree items (tree c.args.ty.now) c.loop-part.part-index c.part-item.result e c.loop-part-test.true
    c.part-item.is in
    let h = held_at (g.S.TypeStore.has c.args.from.now) items c.in_ok-parts.parts.items c.loop-part.part-index
    c.part-item.result c.deref-part-items.ensures.value c.in_ok-parts.ensures.held c.loop-part-test.true
    c.part-item.is in
    (omega (arith, l), search rules)

pub loop-part-preserved : goal.loop-part-preserved
loop-part-preserved g t c =
    let tree = g.S.TypeStore.tree in
    let has = g.T.TypeStore.has in
    let items = c.deref-part-items.result.now in
    let p = c.in_ok-push.ensures.items in
    record {
      kept = λ ty h. c.in_ok-transfer.ensures.kept ty (c.loop-part.invariant.kept ty h);
      held = rw p (one_more (has c.loop-part.into) (has c.transfer.new.into) c.loop-part.taken.items
          c.in_ok-transfer.field-0 c.in_ok-transfer.ensures.kept c.loop-part.invariant.held
          c.in_ok-transfer.ensures.value.0);
      same = rw p (next_taken tree g.T.TypeStore.tree items c.loop-part.taken.items c.loop-part.part-index
          c.part-item.result c.in_ok-transfer.field-0 c.loop-part.invariant.same c.loop-part-test.true c.part-item.is
          c.in_ok-transfer.ensures.value.1);
    }

pub rebuild-requires-clause-normal : goal.rebuild-requires-clause-normal
rebuild-requires-clause-normal g t c =
    let ty = g.S.TypeStore.tree c.args.ty.now in
    let n = g.met.S.TypeStore.normal c.args.from.now c.args.ty.now c.requires in
    let is = same_again g.S.TypeStore.tree g.T.TypeStore.tree ty c.head.result c.deref-part-items.result.now
    c.in_ok-parts.parts.items c.loop-part.taken.items c.deref.result.now c.loop-part.part-index n
    c.head.ensures.head c.deref-part-items.ensures.value c.in_ok-parts.ensures.value c.loop-part.invariant.same
    c.loop-part-test.false c.deref.ensures.value in
    subst IsNormal (sym is) n

pub unreachable-requires : goal.unreachable-requires
unreachable-requires g t c =
    let ty = g.S.TypeStore.tree c.args.ty.now in
    let n = g.met.S.TypeStore.normal c.args.from.now c.args.ty.now c.requires in
    let is = same_again g.S.TypeStore.tree g.T.TypeStore.tree ty c.head.result c.deref-part-items.result.now
    c.in_ok-parts.parts.items c.loop-part.taken.items c.deref.result.now c.loop-part.part-index n
    c.head.ensures.head c.deref-part-items.ensures.value c.in_ok-parts.ensures.value c.loop-part.invariant.same
    c.loop-part-test.false c.deref.ensures.value in
    let small = g.met.S.TypeStore.small c.args.from.now c.args.ty.now c.requires in
    let v = c.in_ok-made.ensures.value in
    let large : node_limit < nodes (rebuilt c.head.result (map g.T.TypeStore.tree c.deref.result.now)) =
    rw c.in_default.is at v in
    let l : node_limit < nodes ty = subst (λ x. node_limit < nodes x) is large in
    omega (arith, l, small)

pub returns-clause-value : goal.returns-clause-value
returns-clause-value g t c =
    let ty = g.S.TypeStore.tree c.args.ty.now in
    let n = g.met.S.TypeStore.normal c.args.from.now c.args.ty.now c.requires in
    let is = same_again g.S.TypeStore.tree g.T.TypeStore.tree ty c.head.result c.deref-part-items.result.now
    c.in_ok-parts.parts.items c.loop-part.taken.items c.deref.result.now c.loop-part.part-index n
    c.head.ensures.head c.deref-part-items.ensures.value c.in_ok-parts.ensures.value c.loop-part.invariant.same
    c.loop-part-test.false c.deref.ensures.value in
    let v = c.in_ok-made.ensures.value in
    let made = rw c.in-Some.is at v in
    (made.0, made.1 ∙ is)
