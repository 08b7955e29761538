use Rattle.std.proofs.Common.{take}
use Rattle.pc_rules.specs.Calls.{parameter_names}
use Rattle.pc_detail_facts.specs.Callees.{parameters_called}
use Rattle.pc_type_details.specs.Given.{HasPositions}
use Rattle.pc_type_details.proofs.given.positions.Given as goal

abbrev pub invariant-loop-position : goal.invariant-loop-position
invariant-loop-position l =
    HasPositions (parameter_names (take l.position (parameters_called l.facts l.called))) l.positions
