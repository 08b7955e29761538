use Rattle.std.proofs.Common.{arith, sym, ap, subst, ◌∙◌, ◌<◌, length}
use Rattle.pc_operations.specs.Displays.{IsDictParts}
use Rattle.pc_rules.specs.Lawful.{dict_parts}
use Rattle.pc_operations.proofs.Displayed.{dict_head, dict_fits, entry_here, entry_later, given_at}
use Rattle.pc_operations.proofs.display.dict_parts.Goals as goal

pub returns-in-Dict : goal.returns-in-Dict
returns-in-Dict g c =
    let tree = g.S.TypeStore.tree in
    let ms = c.in_ok-members.members.items in
    let m = c.index-member.result.now in
    let x = tree c.in_ok-key.key in
    let y = tree c.in_ok-value.value in
    let lt : c.loop-i.i < length ms = omega arith in
    let d = dict_head (tree m) x y c.in-Dict.ensures.head c.in_ok-key.ensures.1 c.in_ok-value.ensures.1 in
    let h = given_at (g.S.TypeStore.has c.args.store.now) ms c.loop-i.i m c.in_ok-members.ensures.held lt
    c.index-member.ensures in
    let e = entry_here tree ms c.loop-i.i m x y lt c.index-member.ensures d c.loop-i.invariant
    ∙ ap dict_parts c.in_ok-members.ensures.value in
    record {
      given = (c.in_ok-key.ensures.0, c.in_ok-value.ensures.0);
      is = e;
      small = subst IsDictParts e (dict_fits (tree m) x y d (g.met.S.TypeStore.normal _ _ h)
          (g.met.S.TypeStore.small _ _ h));
    }

pub loop-i-preserved : goal.loop-i-preserved
loop-i-preserved g c =
    entry_later g.S.TypeStore.tree c.in_ok-members.members.items c.loop-i.i c.index-member.result.now (omega arith)
    c.index-member.ensures (λ e. c.in_default.not-Dict (c.head.ensures.head ∙ sym e)) c.loop-i.invariant
