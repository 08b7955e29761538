use Rattle.std.proofs.Common.{◌∙◌, ap, map}
use Rattle.pc_detail_facts.specs.Held.{tree_lent}
use Rattle.pc_detail_rules.specs.Sinks.{item_store}
use Rattle.pc_flow_details.proofs.EachSink.{each_end, each_next}
use Rattle.pc_flow_details.proofs.stores.add_item_stores.Goals as goal

pub loop-member-preserved : goal.loop-member-preserved
loop-member-preserved c =
    each_next c.args.facts.now (item_store c.args.index c.args.value) tree_lent _
    c.loop-member.member-index c.member-item.result _ _ _ c.loop-member-test.true c.member-item.is
    c.loop-member.invariant c.in_ok-add_item_store.ensures

pub returns : goal.returns
returns c =
    each_end c.args.facts.now (item_store c.args.index c.args.value) tree_lent _ _
    c.loop-member.member-index _ _ c.loop-member-test.false
    (ap (map tree_lent) c.deref-member-items.ensures.value ∙ c.in_ok-members.ensures.trees) c.loop-member.invariant
