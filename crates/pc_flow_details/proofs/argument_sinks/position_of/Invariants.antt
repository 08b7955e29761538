use Rattle.std.proofs.Common.{◌≡◌, drop}
use Rattle.pc_detail_facts.specs.Callees.{parameters_called}
use Rattle.pc_flow_details.proofs.Arguments.{index_from}
use Rattle.pc_flow_details.proofs.argument_sinks.position_of.Given as goal

abbrev pub invariant-loop-position : goal.invariant-loop-position
invariant-loop-position l = index_from l.name l.position (drop l.position (parameters_called l.facts l.called))
    ≡ index_from l.name 0 (parameters_called l.facts l.called)
