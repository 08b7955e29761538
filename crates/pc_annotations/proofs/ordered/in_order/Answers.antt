use Rattle.std.proofs.Common.{map, Some, ◌∙◌}
use Rattle.std.proofs.lemmas.List.Elements.{All-nil, All-pop}
use Rattle.pc_annotations.proofs.Ordering.{all_placed, one_placed, all_next}
use Rattle.pc_annotations.proofs.ordered.in_order.Goals as goal

pub loop-ty-init : goal.loop-ty-init
loop-ty-init g c =
    let has = g.S.TypeStore.has c.args.store.now in
    record {
      left = c.requires;
      held = rw c.new-ordered.ensures.items (All-nil has);
      placed = rw c.new-ordered.ensures.items (all_placed (map g.S.TypeStore.tree c.args.types.items));
    }

pub place-at-requires-clause-ty : goal.place-at-requires-clause-ty
place-at-requires-clause-ty g c =
    let has = g.S.TypeStore.has c.args.store.now in
    (All-pop has c.loop-ty.types.items c.pop.new.self.items (Some c.in-Some.ty) c.in-Some.ensures.items
    c.loop-ty.invariant.left).1

pub loop-ty-preserved : goal.loop-ty-preserved
loop-ty-preserved g c =
    let has = g.S.TypeStore.has c.args.store.now in
    let tree = g.S.TypeStore.tree in
    let p = All-pop has c.loop-ty.types.items c.pop.new.self.items (Some c.in-Some.ty) c.in-Some.ensures.items
    c.loop-ty.invariant.left in
    record {
      left = p.0;
      held = all_next has c.loop-ty.ordered.items c.insert.new.self.items c.in-Some.ty c.place-at.result
          c.in_ok-insert.ensures.items c.loop-ty.invariant.held p.1;
      placed = one_placed tree c.loop-ty.types.items c.pop.new.self.items c.loop-ty.ordered.items
          c.insert.new.self.items c.in-Some.ty c.place-at.result c.in-Some.ensures.items c.in_ok-insert.ensures.items
          (rw c.deref.ensures.value at c.place-at.ensures.placed) ∙ c.loop-ty.invariant.placed;
    }
