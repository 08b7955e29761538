use Rattle.std.proofs.Common.{All, map, get_or, sym, ap, subst, ◌∙◌}
use Rattle.std.proofs.lemmas.List.{take_all}
use Rattle.std.proofs.lemmas.List.Elements.{All-push}
use Rattle.pc_types.specs.Shape.{parts}
use Rattle.pc_intern.specs.Table.{tree_at}
use Rattle.pc_intern.specs.Store.{IsInterned, tree_of_type}
use Rattle.pc_intern.proofs.Places.{same_items}
use Rattle.pc_intern.proofs.Held.{part_numbers, number_in, within, more_parts}
use Rattle.pc_intern.proofs.store.InternStoreTypeStore.parts.Goals as goal

pub held-requires : goal.held-requires
held-requires c =
    let ps = c.parts-number-items.result.now in
    let n = part_numbers c.args.self.now c.args.ty.now ps c.requires
    (rw (← c.self.view_is) c.parts-number-items.ensures) in
    let u = number_in c.args.self.now ps (parts (tree_of_type c.args.ty.now)) c.loop-number.number-index n
    c.loop-number-test.true in
    within c.args.self.now (get_or ps c.loop-number.number-index 0) u.0 u.2

pub loop-number-preserved : goal.loop-number-preserved
loop-number-preserved c =
    record {
      held = subst (All (IsInterned c.args.self.now)) (sym c.in_ok-push.ensures.items)
          (All-push (IsInterned c.args.self.now) c.loop-number.parts.items c.held.result c.loop-number.invariant.held
          c.held.ensures.held);
      same = rw c.in_ok-push.ensures.items (more_parts c.args.self.now c.loop-number.parts.items c.held.result
          c.parts-number-items.result.now c.loop-number.number-index c.loop-number.invariant.same
          c.loop-number-test.true c.held.ensures.held c.held.ensures.number);
    }

pub returns-clause-value : goal.returns-clause-value
returns-clause-value c =
    let ps = c.parts-number-items.result.now in
    let n = part_numbers c.args.self.now c.args.ty.now ps c.requires
    (rw (← c.self.view_is) c.parts-number-items.ensures) in
    same_items (map tree_of_type c.loop-number.parts.items) (parts (tree_of_type c.args.ty.now))
    (c.loop-number.invariant.same ∙ ap (map (tree_at c.args.self.now))
    (take_all c.loop-number.number-index ps c.loop-number-test.false) ∙ n)
