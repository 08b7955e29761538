use Rattle.std.proofs.Common.{◌≡◌, ◌≤◌, ◌+◌, ◌∙◌, sym, ap, arith, add-one}
use Rattle.pc_tree.specs.Tree.{Name, member_of}
use Rattle.pc_scope.specs.Internal.WalkViews.{texts_in}
use Rattle.pc_shared_maps.specs.NameMaps.{with_text}
use Rattle.pc_class.specs.Entries.{inherited_in, number_after}
use Rattle.pc_class.proofs.EntryWalk.{entry_more}
use Rattle.pc_class.proofs.entries.entries.Goals as goal
use Rattle.pc_class.proofs.entries.entries.Goals.{in-Field, in-Method}

pub loop-member-preserved : goal.loop-member-preserved
loop-member-preserved c =
    let x = c.member-item.result in
    let number : c.match-member.methods ≡ number_after c.loop-member.methods (member_of x) =
    elim c.match-member.branch [
      | in-Field w ↦ w.methods-is ∙ ap (λ y. number_after c.loop-member.methods (member_of y)) (sym w.in-Field.is)
      | in-Method w ↦ w.methods-is ∙ add-one c.loop-member.methods
          ∙ ap (λ y. number_after c.loop-member.methods (member_of y)) (sym w.in-Method.is)
    ] in
    let within : c.match-member.methods ≤ c.loop-member.member-index + 1 = let h = c.loop-member.invariant.0 in
    elim c.match-member.branch [
      | in-Field w ↦ let e = w.methods-is in omega arith
      | in-Method w ↦ let e = w.methods-is in omega arith
    ] in
    let text = c.as_str.ensures.value ∙ ap (λ (n : Name). n.text) c.name.ensures in (
      within,
      entry_more (inherited_in c.args.named.now c.args.base) _ c.loop-member.all.items c.push.new.self.items
          c.judge.result (texts_in c.loop-member.before) (texts_in c.number.new.texts) c.loop-member.methods
          c.match-member.methods c.loop-member.member-index c.args.members.now x c.loop-member-test.true
          c.member-item.is
          c.loop-member.invariant.1 c.in_ok-push.ensures.items c.judge.ensures (c.in_ok-number.ensures.texts
          ∙ ap (with_text (texts_in c.loop-member.before)) text) number,
    )
