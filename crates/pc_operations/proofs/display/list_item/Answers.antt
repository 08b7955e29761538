use Rattle.std.proofs.Common.{arith, sym, ap, subst, ◌∙◌, ◌<◌, length}
use Rattle.pc_operations.specs.Displays.{IsListItem}
use Rattle.pc_rules.specs.Lawful.{list_item}
use Rattle.pc_operations.proofs.Displayed.{list_head, item_here, item_later, item_small, given_at}
use Rattle.pc_operations.proofs.display.list_item.Goals as goal

pub returns-in-List : goal.returns-in-List
returns-in-List g c =
    let tree = g.S.TypeStore.tree in
    let ms = c.in_ok-members.members.items in
    let m = c.index-member.result.now in
    let x = tree c.in_ok-part.field-0 in
    let lt : c.loop-i.i < length ms = omega arith in
    let e = item_here tree ms c.loop-i.i m x lt c.index-member.ensures c.in-List.ensures.head c.in_ok-part.ensures.1
    c.loop-i.invariant ∙ ap list_item c.in_ok-members.ensures.value in
    record {
      given = c.in_ok-part.ensures.0;
      is = e;
      small = subst IsListItem e (item_small (tree m) x (list_head (tree m) x c.in-List.ensures.head
          c.in_ok-part.ensures.1) (g.met.S.TypeStore.small _ _ (given_at (g.S.TypeStore.has c.args.store.now) ms
          c.loop-i.i m c.in_ok-members.ensures.held lt c.index-member.ensures)));
    }

pub loop-i-preserved : goal.loop-i-preserved
loop-i-preserved g c =
    item_later g.S.TypeStore.tree c.in_ok-members.members.items c.loop-i.i c.index-member.result.now (omega arith)
    c.index-member.ensures (λ e. c.in_default.not-List (c.head.ensures.head ∙ sym e)) c.loop-i.invariant
