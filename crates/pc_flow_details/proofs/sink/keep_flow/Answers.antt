use Rattle.std.proofs.Common.{◌∙◌, sym}
use Rattle.pc_types.specs.Boxed.{tree_of}
use Rattle.pc_flow_details.specs.Goes.{sink_at_held}
use Rattle.pc_detail_facts.specs.Held.{module_held}
use Rattle.pc_flow_details.proofs.KeptFlow.{flow_added, kept_added, none_added, other_added}
use Rattle.pc_flow_details.proofs.sink.keep_flow.Goals as goal

pub returns-then-contains_key : goal.returns-then-contains_key
returns-then-contains_key c = λ place. kept_added (module_held c.args.facts.now) c.args.kept.now
    (sink_at_held c.args.facts.now c.args.sink) place _ (sym c.contains_key.ensures ∙ c.if-contains_key.true)

pub returns-in_default : goal.returns-in_default
returns-in_default c = λ place. rw c.in_default.is (none_added (module_held c.args.facts.now)
    c.args.kept.now (sink_at_held c.args.facts.now c.args.sink) place)

pub returns-then-not-is_into : goal.returns-then-not-is_into
returns-then-not-is_into c = λ place. rw c.in-Some.is (other_added (module_held c.args.facts.now)
    c.args.kept.now (sink_at_held c.args.facts.now c.args.sink) place (tree_of c.in-Some.types.now.0.now)
    (tree_of c.in-Some.types.now.1.now) (sym c.is_into.ensures ∙ c.if-not-is_into.true))

pub returns : goal.returns
returns c = λ place. rw c.in-Some.is (flow_added (module_held c.args.facts.now)
    c.args.kept.now (sink_at_held c.args.facts.now c.args.sink) place (tree_of c.in-Some.types.now.0.now)
    (tree_of c.in-Some.types.now.1.now) c.in_ok-flow.flow c.insert.new.self
    (sym c.is_into.ensures ∙ c.if-not-is_into.false) (sym c.contains_key.ensures ∙ c.if-contains_key.false)
    c.in_ok-flow.ensures c.in_ok-insert.ensures.updates.0)
