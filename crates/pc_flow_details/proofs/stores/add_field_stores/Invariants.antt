use Rattle.pc_detail_facts.specs.Held.{module_held, tree_lent}
use Rattle.pc_detail_rules.specs.Sinks.{field_store}
use Rattle.pc_flow_details.proofs.EachSink.{LeftOfEach}
use Rattle.pc_flow_details.proofs.stores.add_field_stores.Given as goal

abbrev pub invariant-loop-member : goal.invariant-loop-member
invariant-loop-member l =
    LeftOfEach l.facts (field_store (module_held l.facts) l.place l.name) tree_lent
    l.member-items l.member-index l.sinks l.fn.sinks
