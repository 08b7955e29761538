use Rattle.std.proofs.Common.{map, take}
use Rattle.pc_detail_facts.specs.Held.{body_of}
use Rattle.pc_name_details.specs.Naming.{statements_rule}
use Rattle.pc_name_details.specs.Offered.{AddsDetails}
use Rattle.pc_name_details.proofs.leaving.add_statements.Given as goal

abbrev pub invariant-loop-body : goal.invariant-loop-body
invariant-loop-body l = AddsDetails l.facts (statements_rule (map body_of (take l.body-index l.bodies))) l.initial.offers l.offers
