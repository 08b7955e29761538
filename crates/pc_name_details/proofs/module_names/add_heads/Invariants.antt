use Rattle.std.proofs.Common.{map, take}
use Rattle.pc_detail_facts.specs.Held.{class_lent}
use Rattle.pc_detail_rules.specs.Names.{first_of_all}
use Rattle.pc_name_details.specs.Naming.{names_of_classes, head_rule}
use Rattle.pc_name_details.specs.Offered.{AddsDetails}
use Rattle.pc_name_details.proofs.module_names.add_heads.Given as goal

abbrev pub invariant-loop-class : goal.invariant-loop-class
invariant-loop-class l = AddsDetails l.facts (λ f. first_of_all (λ c. head_rule (names_of_classes (map class_lent l.class-items)) c f)
    (map class_lent (take l.class-index l.class-items))) l.initial.offers l.offers
