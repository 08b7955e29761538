use Rattle.std.proofs.Common.{map, take}
use Rattle.pc_detail_facts.specs.Held.{body_of}
use Rattle.pc_detail_rules.specs.Names.{first_of_all}
use Rattle.pc_name_details.specs.Naming.{body_rule}
use Rattle.pc_name_details.specs.Offered.{AddsDetails}
use Rattle.pc_name_details.proofs.naming.add_bodies.Given as goal

abbrev pub invariant-loop-body : goal.invariant-loop-body
invariant-loop-body l = AddsDetails l.facts (λ f. first_of_all (λ b. body_rule b f) (map body_of (take l.body-index l.bodies)))
    l.initial.offers l.offers
