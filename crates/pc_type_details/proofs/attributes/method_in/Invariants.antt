use Rattle.std.proofs.Common.{◌≡◌, drop}
use Rattle.pc_class.specs.Facts.{classes_of}
use Rattle.pc_detail_facts.specs.Held.{module_held, trees_lent}
use Rattle.pc_detail_rules.specs.Operations.{method_of}
use Rattle.pc_type_details.proofs.attributes.method_in.Given as goal

abbrev pub invariant-loop-member : goal.invariant-loop-member
invariant-loop-member l =
    method_of (classes_of (module_held l.facts)) l.name (trees_lent (drop l.member-index l.member-items))
    ≡ method_of (classes_of (module_held l.facts)) l.name (trees_lent l.member-items)
