use Rattle.std.proofs.Common.{take}
use Rattle.pc_report.specs.Flows.{HasFlows}
use Rattle.pc_report.proofs.flow.by_place.Given as goal

abbrev pub invariant-loop-flow : goal.invariant-loop-flow
invariant-loop-flow l = HasFlows (take l.flow-index l.flows) l.map
