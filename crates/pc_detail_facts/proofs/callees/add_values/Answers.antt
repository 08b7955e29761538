use Rattle.std.proofs.Common.{◌∙◌, ◌++◌, List, ap, sym, map, append_assoc}
use Rattle.pc_detail_facts.specs.Callees.{called_of}
use Rattle.pc_detail_rules.specs.Calls.{Called, value_called}
use Rattle.pc_detail_facts.specs.Held.{tree_lent}
use Rattle.pc_detail_facts.proofs.Held.{flat_more}
use Rattle.pc_detail_facts.proofs.callees.add_values.Goals as goal

pub loop-member-preserved : goal.loop-member-preserved
loop-member-preserved c =
    let more = value_called (tree_lent c.member-item.result) in
    record {
      called = c.in_ok-add_value.ensures.called c.args.facts.now
          ∙ ap (λ (l : List Called). l ++ more) c.loop-member.invariant.called
          ∙ append_assoc (map (called_of c.args.facts.now) c.args.called.now.items) _ more
          ∙ ap (λ (l : List Called). map (called_of c.args.facts.now) c.args.called.now.items ++ l)
          (sym (flat_more value_called _ c.loop-member.member-index c.member-item.result c.loop-member-test.true
          c.member-item.is));
      held = c.in_ok-add_value.ensures.held;
    }
