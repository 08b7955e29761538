use Rattle.std.proofs.Common.{◌≡◌, map, drop}
use Rattle.pc_tree.specs.Lists.{exprs_of_list}
use Rattle.pc_detail_facts.specs.Callees.{called_of}
use Rattle.pc_flow_details.specs.Kept.{first_of_both, flows_to_sinks, flows_kept}
use Rattle.pc_detail_rules.specs.Sinks.{positional_sinks}
use Rattle.pc_flow_details.proofs.argument_sinks.add_positional.Given as goal

abbrev pub invariant-loop-argument : goal.invariant-loop-argument
invariant-loop-argument l = record {
  left : first_of_both (flows_kept l.sinks) (flows_to_sinks l.facts (positional_sinks (map (called_of l.facts) l.called)
      l.position (exprs_of_list (drop l.argument-index l.arguments))))
      ≡ first_of_both (flows_kept l.fn.sinks) (flows_to_sinks l.facts (positional_sinks (map (called_of l.facts) l.called)
      0 (exprs_of_list l.arguments)));
  count : l.position ≡ l.argument-index;
}
