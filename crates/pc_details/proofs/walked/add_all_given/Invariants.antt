use Rattle.std.proofs.Common.{map, take}
use Rattle.std.specs.Prelude.{flat_map}
use Rattle.pc_detail_facts.specs.Held.{owned_of}
use Rattle.pc_detail_rules.specs.Names.{arguments_together}
use Rattle.pc_name_details.specs.Naming.{given_rule}
use Rattle.pc_name_details.specs.Offered.{AddsDetails}
use Rattle.pc_details.proofs.walked.add_all_given.Given as goal

abbrev pub invariant-loop-owned : goal.invariant-loop-owned
invariant-loop-owned l = AddsDetails l.facts
    (given_rule (flat_map arguments_together (map owned_of (take l.owned-index l.exprs)))) l.initial.offers l.offers
