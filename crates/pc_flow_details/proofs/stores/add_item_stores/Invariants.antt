use Rattle.pc_detail_facts.specs.Held.{tree_lent}
use Rattle.pc_detail_rules.specs.Sinks.{item_store}
use Rattle.pc_flow_details.proofs.EachSink.{LeftOfEach}
use Rattle.pc_flow_details.proofs.stores.add_item_stores.Given as goal

abbrev pub invariant-loop-member : goal.invariant-loop-member
invariant-loop-member l =
    LeftOfEach l.facts (item_store l.index l.value) tree_lent l.member-items l.member-index l.sinks l.fn.sinks
